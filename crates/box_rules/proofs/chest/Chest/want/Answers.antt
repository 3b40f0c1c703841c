use Rattle.std.proofs.Common.{Some, Err, refl}
use Rattle.box_rules.proofs.Wanted.{by-table, line-drawn, sends-asking, sends-login}
use Rattle.box_rules.proofs.chest.Chest.want.Goals as goal
use Rattle.box_rules.specs.Chest.{boxed}

pub returns-in-Some : goal.returns-in-Some
returns-in-Some g c =
    let b = boxed c.args.self.now (g.D.Drawn.left c.args.drawn.now) in
    by-table b c.args.service c.args.by c.args.what c.pass_by-pass.result (Some c.in-Some.fault) (Err c.in-Some.fault) b c.if-is_unread.ensures c.pass_by-pass.ensures c.in-Some.ensures refl refl

pub log_in-requires : goal.log_in-requires
log_in-requires g c =
    line-drawn c.args.self.now.now (g.D.Drawn.left c.args.drawn.now) c.args.service c.args.by c.pass_by-pass.result c.in_default.ensures

pub ask-asking-requires : goal.ask-asking-requires
ask-asking-requires g c =
    line-drawn c.args.self.now.now (g.D.Drawn.left c.args.drawn.now) c.args.service c.args.by c.pass_by-pass.result c.in_default.ensures

pub returns-in-None : goal.returns-in-None
returns-in-None g c =
    sends-login (boxed c.args.self.now (g.D.Drawn.left c.args.drawn.now)) c.args.service c.args.by c.args.what c.pass_by-pass.result c.log_in.result _ c.if-is_unread.ensures c.pass_by-pass.ensures c.in_default.ensures c.in-None.is c.log_in.ensures.sent c.log_in.ensures.after

pub returns-in-Some-pass : goal.returns-in-Some-pass
returns-in-Some-pass g c =
    sends-asking (boxed c.args.self.now (g.D.Drawn.left c.args.drawn.now)) c.args.service c.args.by c.args.what c.pass_by-pass.result c.in-Some-pass.pass c.ask-asking.result _ c.if-is_unread.ensures c.pass_by-pass.ensures c.in_default.ensures c.in-Some-pass.is c.ask-asking.ensures.sent c.ask-asking.ensures.after
