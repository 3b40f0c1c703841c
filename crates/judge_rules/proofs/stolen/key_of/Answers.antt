use Rattle.judge_rules.proofs.Lines.{key_by_find}
use Rattle.judge_rules.proofs.stolen.key_of.Goals as goal
use Rattle.judge_rules.specs.declared.record.Principal.{Principal}
use Rattle.std.proofs.Common.{◌≡◌, eqb, ◌∙◌, rules}
use Rattle.std.specs.List.{find}
use Rattle.std.specs.Option.{option_map}

pub returns : goal.returns
returns c =
    let found : c.map.result ≡ option_map (λ (p : Principal). p.key) (find (λ (p : Principal). eqb p.number c.args.number) c.args.principals.now) = search rules in
    found ∙ key_by_find c.args.number c.args.principals.now
