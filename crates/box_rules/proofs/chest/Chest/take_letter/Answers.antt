use Rattle.box_rules.proofs.Taken.{by-table, met, never, takes}
use Rattle.box_rules.proofs.chest.Chest.take_letter.Goals as goal
use Rattle.box_rules.specs.Chest.{boxed}
use Rattle.std.proofs.Common.{[], None, Some, Err, ◌≡◌, refl, ap, arith}

pub returns-in-Some : goal.returns-in-Some
returns-in-Some g c =
    let b = boxed c.args.self.now (g.D.Drawn.left c.args.drawn.now) in
    by-table b c.args.under c.args.letter c.args.ticket c.pending_for-found.result (Some c.in-Some.fault) (Err c.in-Some.fault) b c.pending_for-found.ensures c.in-Some.ensures refl refl

pub returns-in_err-pending : goal.returns-in_err-pending
returns-in_err-pending g c =
    let none : c.pending_for-found.result ≡ None = grind arith in
    absurd (never c.args.self.now.taken (g.D.Drawn.left c.args.drawn.now) c.pending_for-found.result c.in_default.ensures none)

pub store-requires : goal.store-requires
store-requires g c =
    let e = ap (λ b. b.taken) (c.settle.ensures []) in
    omega (arith, e, (met c.args.self.now.taken (g.D.Drawn.left c.args.drawn.now) c.pending_for-found.result c.in_default.ensures).more)

pub ask-asking-requires : goal.ask-asking-requires
ask-asking-requires g c =
    (met c.args.self.now.taken (g.D.Drawn.left c.args.drawn.now) c.pending_for-found.result c.in_default.ensures).drawn

pub returns : goal.returns
returns g c =
    let bs = g.D.Drawn.left c.args.drawn.now in
    let found : c.pending_for-found.result ≡ Some c.in_ok-pending.pending = grind arith in
    takes (boxed c.args.self.now bs) (boxed c.settle.new.self bs) (boxed c.store.new.self bs) _ c.args.under c.args.letter c.args.ticket c.pending_for-found.result c.in_ok-pending.pending c.ask-asking.result _ c.pending_for-found.ensures c.in_default.ensures found (c.settle.ensures bs) (c.store.ensures bs) refl c.ask-asking.ensures.sent c.ask-asking.ensures.after
