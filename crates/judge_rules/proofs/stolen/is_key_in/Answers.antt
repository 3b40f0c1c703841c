use Rattle.judge_rules.proofs.stolen.is_key_in.Goals as goal
use Rattle.judge_rules.specs.Judge.{is_key_in}
use Rattle.std.proofs.Common.{[], refl, rules}
use Rattle.std.proofs.lemmas.List.Recursion.{or_is}
use Rattle.std.specs.Str.{bytes_eq}

pub returns : goal.returns
returns c = or_is (is_key_in c.args.key.now) (λ x. bytes_eq x.0 c.args.key.now.0) refl (λ _ _. refl) c.args.keys.now (record { 0 = [] }) c.any.result (search rules) (search rules)
