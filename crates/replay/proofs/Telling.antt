-- A payload that stands in lent bytes is told of. Assumes nothing.
use Rattle.std.proofs.Common.{◌≡◌, ℕ, ◌+◌, ◌-◌, ◌≤◌, Bool, cond, List, ◌++◌, length, take, drop, Some, None, Option, sym, ap, ◌∙◌, subst, arith}
use Rattle.halves.specs.Blocks.{Blocks, Writes}
use Rattle.halves.specs.Half.{half, payload_in}
use Rattle.halves.specs.Halves.{Tried, next_of, target}
use Rattle.halves.specs.declared.halves.Good.{Good}
use Rattle.halves.specs.declared.halves.Halves.{Halves}
use Rattle.replay.specs.Replay.{Told}
use Rattle.std.proofs.lemmas.List.{drop_at, drop-take, length-take-le, take-take}
use Rattle.std.proofs.lemmas.Bool.{le-ltb}

told_of : (o : Option Good) (h : Halves) (b : Blocks) (x p : List ℕ) (r : Bool) (h' : Halves) (b' : Blocks) (x' : List ℕ)
    → payload_in x ≡ p → Tried o h b x r h' b' x' → Told o h b p r h' b'
told_of None h b x p r h' b' x' e t = (t.0, t.1, t.2)
told_of (Some g) h b x p r h' b' x' e t =
    let P : List ℕ → Type 0 = λ y. Writes g.which (half g.half.turn y) b r b' in
    (subst P e t.0, t.1)

-- the bytes that are handed on: eight, a payload, and sixteen
pub payload-of : (x front p : List ℕ) (n : ℕ) → length front ≡ 8 → n ≡ 8 + length p → n + 16 ≤ length x → take n x ≡ front ++ p
    → payload_in (take (n + 16) x) ≡ p
payload-of x front p n f e l t =
    let m : length (take (n + 16) x) ≡ n + 16 = length-take-le (n + 16) x l in
    let k : length (take (n + 16) x) - 24 ≡ length p = omega arith in
    let e₁ : n ≡ 8 + length p = e in
    let e₂ : n + 16 ≡ 8 + (length p + 16) = omega arith in
    ap (λ (i : ℕ). take i (drop 8 (take (n + 16) x))) k
    ∙ ap (λ (i : ℕ). take (length p) (drop 8 (take i x))) e₂
    ∙ ap (take (length p)) (drop-take 8 (length p + 16) x)
    ∙ take-take (length p) (length p + 16) (drop 8 x) (omega arith)
    ∙ sym (drop-take 8 (length p) x)
    ∙ ap (λ (i : ℕ). drop 8 (take i x)) (sym e₁)
    ∙ ap (drop 8) t
    ∙ drop_at front p 8 f

pub told : (h : Halves) (b : Blocks) (x front p : List ℕ) (n : ℕ) (r : Bool) (h' : Halves) (b' : Blocks) (x' : List ℕ)
    → length front ≡ 8 → n ≡ 8 + length p → n + 16 ≤ length x → take n x ≡ front ++ p
    → Tried (target h (take (n + 16) x)) h b (take (n + 16) x) r h' b' x'
    → Told (next_of h (length p)) h b p r h' b'
told h b x front p n r h' b' x' f e l t w =
    let m : length (take (n + 16) x) ≡ n + 16 = length-take-le (n + 16) x l in
    let k : length (take (n + 16) x) - 24 ≡ length p = omega arith in
    let y = take (n + 16) x in
    let g : target h y ≡ next_of h (length p) =
    ap (λ (v : Bool). cond v None (next_of h (length y - 24))) (le-ltb (length y) 24 (omega arith)) ∙ ap (next_of h) k in
    let P : Option Good → Type 0 = λ o. Tried o h b y r h' b' x' in
    told_of (next_of h (length p)) h b y p r h' b' x' (payload-of x front p n f e l t) (subst P g w)
