use Rattle.house_rules.proofs.Decided.{left_alone, met, refuses, room_at, written}
use Rattle.house_rules.proofs.house.House.ask.Goals as goal
use Rattle.house_rules.specs.Give.{Reply}
use Rattle.house_rules.specs.House.{Decides, home}
use Rattle.parts.specs.declared.fault.Fault.{Fault}
use Rattle.parts.specs.declared.fault.Fault.TheVariants.{NotNow}
use Rattle.std.proofs.Common.{◌≡◌, rules, ap, sym, ◌∙◌, subst, is_ok, Ok, Err}
use Rattle.std.proofs.lemmas.Result.{err_from_is_err_and}

pub returns-in-Some : goal.returns-in-Some
returns-in-Some g c =
    let m = c.args.memory.now in
    let h = home c.args.self.now (g.A.Accounts.listed c.args.accounts.now) (g.M.Memory.kept m) (g.M.Memory.junk m) (g.M.Memory.writes m) (g.D.Drawn.left c.args.drawn.now) in
    record {
      decides = refuses h c.args.ticket c.args.asking.now c.args.digest c.in-Some.fault (sym c.if-not-is_readable.ensures) c.in-Some.ensures;
      keeps = g.met.M.Memory.same m;
    }

pub record-requires : goal.record-requires
record-requires g c =
    room_at c.args.self.now.side _ (g.A.Accounts.listed c.args.accounts.now) (g.M.Memory.kept c.args.memory.now) (g.D.Drawn.left c.args.drawn.now) c.args.ticket c.args.asking.now c.args.digest c.clock.ensures c.in_default.ensures

pub returns-in_err-record-clause-decides : goal.returns-in_err-record-clause-decides
returns-in_err-record-clause-decides g c =
    let m = c.args.memory.now in
    let r = c.record.ensures in
    let xs = g.A.Accounts.listed c.args.accounts.now in
    let told = err_from_is_err_and c.from_residual.result c.from_residual.ensures.1 in
    let h = home c.args.self.now xs (g.M.Memory.kept m) (g.M.Memory.junk m) (g.M.Memory.writes c.record.new.self) (g.D.Drawn.left c.args.drawn.now) in
    let h' = home c.args.self.now xs (g.M.Memory.kept c.record.new.self) (g.M.Memory.junk c.record.new.self) (g.M.Memory.writes c.record.new.self) (g.D.Drawn.left c.args.drawn.now) in
    let same : Err NotNow ≡ c.from_residual.result = ap (λ (f : Fault). let r : Reply = Err f in r) (sym told.2) ∙ sym told.1 in
    subst (λ (r : Reply). Decides h c.args.ticket c.args.asking.now c.args.digest r h') same
    (left_alone c.args.self.now c.clock.result xs (g.M.Memory.kept m) _ (g.M.Memory.junk m) _ _ (is_ok c.record.result) (g.D.Drawn.left c.args.drawn.now) c.args.ticket c.args.asking.now c.args.digest (sym c.if-not-is_readable.ensures) c.in_default.ensures r.wrote (search rules) r.kept r.junk)

pub give-requires : goal.give-requires
give-requires g c =
    (met c.args.self.now.side (g.A.Accounts.listed c.args.accounts.now) (g.M.Memory.kept c.args.memory.now) (g.D.Drawn.left c.args.drawn.now) c.args.ticket c.args.asking.now c.args.digest c.in_default.ensures).drawn

pub returns : goal.returns
returns g c =
    let m = c.args.memory.now in
    let r = c.record.ensures in
    let u = c.give.ensures in
    record {
      decides = written c.args.self.now c.clock.result (g.A.Accounts.listed c.args.accounts.now) (g.M.Memory.kept m) _ (g.M.Memory.junk m) _ _ (is_ok c.record.result) (g.D.Drawn.left c.args.drawn.now) _ c.args.ticket c.args.asking.now c.args.digest (Ok c.give.result) c.wanted_of-service.result c.own_key.result (sym c.if-not-is_readable.ensures) c.clock.ensures c.in_default.ensures r.wrote (search rules) r.kept r.junk c.wanted_of-service.ensures c.own_key.ensures (ap Ok u.value) u.rest;
      keeps = r.keeps;
    }
