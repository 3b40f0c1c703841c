use Rattle.service_rules.proofs.Decided.{left_alone, met, refuses, room_at, written}
use Rattle.service_rules.proofs.side.Side.decide.Goals as goal
use Rattle.parts.specs.declared.fault.Fault.{Fault}
use Rattle.parts.specs.declared.fault.Fault.TheVariants.{NotNow}
use Rattle.service_rules.specs.Service.{Answer, Decides, view}
use Rattle.std.proofs.Common.{◌≡◌, rules, arith, ap, sym, ◌∙◌, subst, is_ok, Err}
use Rattle.std.proofs.lemmas.Result.{err_from_is_err_and}

pub returns-in-Some : goal.returns-in-Some
returns-in-Some g c =
    let m = c.args.memory.now in
    let v = view c.args.self.now (g.M.Memory.kept m) (g.M.Memory.junk m) (g.M.Memory.writes m) (g.D.Drawn.left c.args.drawn.now) in
    record {
      decides = refuses v c.args.ticket c.args.asking c.args.digest c.in-Some.fault c.in-Some.ensures;
      keeps = g.met.M.Memory.same m;
    }

pub record-requires : goal.record-requires
record-requires g c =
    room_at c.args.self.now _ (g.M.Memory.kept c.args.memory.now) (g.D.Drawn.left c.args.drawn.now) c.args.ticket c.args.asking c.args.digest c.clock.ensures (sym c.in_default.ensures)

pub returns-in_err-record-clause-decides : goal.returns-in_err-record-clause-decides
returns-in_err-record-clause-decides g c =
    let m = c.args.memory.now in
    let r = c.record.ensures in
    let told = err_from_is_err_and c.from_residual.result c.from_residual.ensures.1 in
    let v = view c.args.self.now (g.M.Memory.kept m) (g.M.Memory.junk m) (g.M.Memory.writes c.record.new.self) (g.D.Drawn.left c.args.drawn.now) in
    let v' = view c.args.self.now (g.M.Memory.kept c.record.new.self) (g.M.Memory.junk c.record.new.self) (g.M.Memory.writes c.record.new.self) (g.D.Drawn.left c.args.drawn.now) in
    let same : Err NotNow ≡ c.from_residual.result = ap (λ (f : Fault). let r : Answer = Err f in r) (sym told.2) ∙ sym told.1 in
    subst (λ (r : Answer). Decides v c.args.ticket c.args.asking c.args.digest r v') same
    (left_alone c.args.self.now c.clock.result (g.M.Memory.kept m) _ (g.M.Memory.junk m) _ _ (is_ok c.record.result) (g.D.Drawn.left c.args.drawn.now) c.args.ticket c.args.asking c.args.digest c.clock.ensures (sym c.in_default.ensures) r.wrote (search rules) r.kept r.junk)

pub take-requires : goal.take-requires
take-requires g c =
    (omega arith, (met c.args.self.now (g.M.Memory.kept c.args.memory.now) (g.D.Drawn.left c.args.drawn.now) c.args.ticket c.args.asking c.args.digest (sym c.in_default.ensures)).drawn)

pub returns : goal.returns
returns g c =
    let m = c.args.memory.now in
    let r = c.record.ensures in
    let u = c.take.ensures in
    record {
      decides = written c.args.self.now c.clock.result (g.M.Memory.kept m) _ (g.M.Memory.junk m) _ _ (is_ok c.record.result) (g.D.Drawn.left c.args.drawn.now) _ c.take.result c.args.ticket c.args.asking c.args.digest c.clock.ensures (sym c.in_default.ensures) r.wrote (search rules) r.kept r.junk u.value u.rest;
      keeps = r.keeps;
    }
