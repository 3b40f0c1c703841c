use Rattle.std.proofs.Common.{rules, ◌≡◌, ◌++◌, List, ℕ, ap, ◌∙◌}
use Rattle.std.proofs.iter.runs.Consumers.{total_runs}
use Rattle.words.proofs.pair_octets.Goals as goal

pub returns : goal.returns
returns c =
    let (it, xs, becomes, extends, drains) = c.in_ok-extend.ensures.ran in
    let (p, from, all, items) = total_runs _ it (Unit {0}) (λ (l : List ℕ). c.extend.new.self.items ≡ l) (xs, (λ _. drains), extends.0 ∙ ap (λ (l : List ℕ). l ++ xs) c.in_ok-bytes.ensures.items) tt in
    let (q, first, mapped) = c.map.ensures.runs p p.seen (from ∙ becomes) in
    search rules
