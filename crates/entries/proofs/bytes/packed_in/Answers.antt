use Rattle.entries.proofs.Packing.{entries-chunks, entries-none}
use Rattle.entries.proofs.bytes.packed_in.Goals as goal
use Rattle.entries.specs.Bytes.{count_in, entry_of}
use Rattle.std.proofs.Common.{rules, ◌≡◌, ◌-◌, ◌*◌, ◌≤◌, ℕ, length, map, drop, take, sym, ap, ◌∙◌}
use Rattle.std.specs.Simd.{first_chunks}

pub returns-in-Some-clause-value : goal.returns-in-Some-clause-value
returns-in-Some-clause-value c =
    let p = c.args.bytes.now in
    let m = c.in-Some.end - 2 in
    let n : length c.as_chunks.result.0.now ≡ count_in p = search rules in
    let rows : c.as_chunks.result.0.now ≡ first_chunks 24 (count_in p) (take m (drop 2 p)) = c.as_chunks.ensures.front ∙ ap (λ (k : ℕ). first_chunks 24 k (take m (drop 2 p))) (sym c.as_chunks.ensures.front_len ∙ n) in
    let fits : 24 * count_in p ≤ m = search rules in
    ap (map entry_of) rows ∙ entries-chunks p m (count_in p) fits

pub returns-in_default-clause-value : goal.returns-in_default-clause-value
returns-in_default-clause-value c =
    let p = c.args.bytes.now in
    let n : count_in p ≡ 0 = search rules in
    sym (entries-none p (count_in p) n)
