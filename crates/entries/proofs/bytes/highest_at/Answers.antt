use Rattle.entries.proofs.bytes.highest_at.Goals as goal
use Rattle.entries.specs.Bytes.{entry_of}
use Rattle.service_rules.specs.Memory.{highest}
use Rattle.std.proofs.Common.{◌≡◌, List, ℕ, [], map, refl, ap, ◌∙◌, arith, rules}
use Rattle.std.proofs.lemmas.Grind.{common_steps}
use Rattle.std.proofs.lemmas.List.Recursion.{max_bounds, max_least}

pub returns : goal.returns
returns c =
    let rows = c.packed_in.result.now in
    let bounds = max_bounds (λ (xs : List (List ℕ)). highest (map entry_of xs)) (λ (x : List ℕ). (entry_of x).tick) refl (λ _ _. refl) rows in
    let least = max_least (λ (xs : List (List ℕ)). highest (map entry_of xs)) (λ (x : List ℕ). (entry_of x).tick) refl (λ _ _. refl) rows [] c.unwrap_or.result (search rules) in
    let top : c.unwrap_or.result ≡ highest (map entry_of rows) = grind (arith, common_steps, bounds, least) in
    top ∙ ap highest c.packed_in.ensures.value
