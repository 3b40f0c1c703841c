use Rattle.locked.specs.Locked.{ours}
use Rattle.service_rules.specs.Service.{view}
use Rattle.service_side.proofs.Unread.{unread}
use Rattle.service_side.proofs.service.Service.hear.Goals as goal
use Rattle.service_side.specs.Service.{read_at_service, wrong}
use Rattle.std.proofs.Common.{◌≡◌, refl, rules}

pub returns-in-Err-Wrong : goal.returns-in-Err-Wrong
returns-in-Err-Wrong g c =
    let s = c.args.self.now in
    let m = g.M.Memory in
    let v = view s.side (m.kept s.memory) (m.junk s.memory) (m.writes s.memory) (g.D.Drawn.left s.drawn) in
    let e : read_at_service ours s.key c.args.word.now ≡ wrong c.in-Err-Wrong.fault = search rules in
    record {
      hears = unread ours v s.key c.args.word.now c.in-Err-Wrong.fault c.told-in-Err-Wrong.result e c.told-in-Err-Wrong.ensures;
      keeps = g.met.M.Memory.same s.memory;
      key = refl;
      same = λ _. refl;
    }
