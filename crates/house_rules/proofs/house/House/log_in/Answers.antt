use Rattle.house_rules.proofs.Decided.{login-drawn, login-granted, login-refused}
use Rattle.house_rules.proofs.house.House.log_in.Goals as goal
use Rattle.house_rules.specs.House.{home}
use Rattle.std.proofs.Common.{ap, Ok}

pub returns-in-Some : goal.returns-in-Some
returns-in-Some g c =
    λ es j w. login-refused (home c.args.self.now (g.A.Accounts.listed c.args.accounts.now) es j w (g.D.Drawn.left c.args.drawn.now)) c.args.reader c.args.login c.in-Some.fault c.in-Some.ensures

pub give-requires : goal.give-requires
give-requires g c =
    login-drawn c.args.self.now.side (g.A.Accounts.listed c.args.accounts.now) (g.D.Drawn.left c.args.drawn.now) c.args.reader c.args.login c.in_default.ensures

pub returns : goal.returns
returns g c =
    λ es j w. login-granted c.args.self.now (g.A.Accounts.listed c.args.accounts.now) es j w (g.D.Drawn.left c.args.drawn.now) _ c.args.reader c.args.login (Ok c.give.result) c.own_key.result c.in_default.ensures c.own_key.ensures (ap Ok c.give.ensures.value) c.give.ensures.rest
