use Rattle.house_side.proofs.house.House.log_in.Goals as goal
use Rattle.std.proofs.Common.{refl}

pub returns : goal.returns
returns g c =
    let m = c.args.self.now.memory in
    let e = c.log_in.ensures (g.M.Memory.kept m) (g.M.Memory.junk m) (g.M.Memory.writes m) in
    record { answer = e.answer; after = e.after; accounts = refl; memory = refl }
