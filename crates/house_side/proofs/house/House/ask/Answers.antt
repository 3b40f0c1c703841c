use Rattle.house_rules.specs.House.{home}
use Rattle.house_side.proofs.Words.{decided}
use Rattle.house_side.proofs.house.House.ask.Goals as goal
use Rattle.std.proofs.Common.{refl}

pub returns : goal.returns
returns g c =
    let s = c.args.self.now in
    let m = g.M.Memory in
    let w = m.writes c.ask.new.memory in
    let xs = g.A.Accounts.listed s.accounts in
    let e = decided
    (home s.house xs (m.kept s.memory) (m.junk s.memory) w (g.D.Drawn.left s.drawn))
    c.args.ticket c.args.asking c.digest-digest.result _ c.ask.result
    (home s.house xs (m.kept c.ask.new.memory) (m.junk c.ask.new.memory) w (g.D.Drawn.left c.ask.new.drawn))
    c.digest-digest.ensures c.ask.ensures.decides in
    record { answer = e.0; after = e.1; accounts = refl; keeps = c.ask.ensures.keeps }
