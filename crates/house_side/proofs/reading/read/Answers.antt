use Rattle.house_rules.specs.House.{home}
use Rattle.house_side.proofs.Words.{read-frame}
use Rattle.house_side.proofs.reading.read.Goals as goal
use Rattle.locked.specs.Locked.{ours}
use Rattle.std.proofs.Common.{◌≡◌, Ok, rules}
use Rattle.wire.specs.Word.{framed, login}

pub returns-in-Login : goal.returns-in-Login
returns-in-Login g c = λ es j w bs.
    let h = home c.args.house.now (g.A.Accounts.listed c.args.accounts.now) es j w bs in
    let e : framed c.args.word.now ≡ Ok (login c.in-Login.reader c.in-Login.lock.now) = search rules in
    read-frame ours h c.args.word.now (login c.in-Login.reader c.in-Login.lock.now) c.read_login.result e (c.read_login.ensures es j w bs)
