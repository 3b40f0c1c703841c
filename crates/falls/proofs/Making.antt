-- What a new device is once it was made. Assumes nothing.
use Rattle.std.proofs.Common.{◌≡◌, ℕ, ◌-◌, Bool, true, false, cond, ◌&&◌, ◌||◌, eqb, ltb, leb, List, [], length, drop, Some, None, sym, refl, ap, ◌∙◌, arith}
use Rattle.entries.specs.Bytes.{entries_of, measured_of, unpacked}
use Rattle.falls.proofs.Reading.{steady}
use Rattle.falls.specs.Falls.{Left}
use Rattle.halves.proofs.Written.{decoded-after, part-after}
use Rattle.halves.specs.Blocks.{Blocks, Writes, over}
use Rattle.halves.specs.Half.{Measure, blank, decoded, half, is_zero, payload_in, sized}
use Rattle.halves.specs.Halves.{full, good_of, known_of, makes, payload_of, whether}
use Rattle.halves.specs.Laws.{Junk, Knows, New, Old}
use Rattle.halves.specs.declared.half.Half.{Half}
use Rattle.halves.specs.declared.which.Which.TheVariants.{First, Second}
use Rattle.replay.specs.Replay.{nothing}
use Rattle.std.proofs.lemmas.Bool.{and_parts}

or-true : (b : Bool) → (b || true) ≡ true
or-true true = refl
or-true false = refl

-- a block of zeros is junk
pub zeros-junk : (m : Measure) (n : ℕ) (x : List ℕ) → full n x ≡ true → decoded m x ≡ None
zeros-junk m n x f =
    let z : is_zero x ≡ true = (and_parts (eqb (length x - 24) n) (is_zero x) (and_parts (leb 24 (length x)) (eqb (length x - 24) n && is_zero x) f).1).1 in
    let b : blank x ≡ true = ap (λ (v : Bool). ltb (length x) 24 || v) z ∙ or-true (ltb (length x) 24) in
    ap (λ (v : Bool). cond v None (sized (m (drop 8 x)) x)) b

pub new-junk : (m : Measure) (b : Blocks) → makes 196610 b nothing ≡ true → (decoded m b.first ≡ None) × (decoded m b.second ≡ None)
new-junk m b e =
    let n = and_parts (full 196610 b.first) (full 196610 b.second) e in
    (zeros-junk m 196610 b.first n.0, zeros-junk m 196610 b.second n.1)

-- a payload of no entries
abbrev pub none : List ℕ
none = payload_in nothing

none-fits : measured_of none ≡ Some (length none)
none-fits = refl

none_read : unpacked none ≡ []
unfolding entries_of
none_read = refl

none-empty : unpacked [] ≡ []
unfolding entries_of
none-empty = refl

-- what is known of a new device is so, and nothing is remembered
pub make-so : (one two : Bool) (b c b' : Blocks) → decoded measured_of b.second ≡ None
    → Writes First (half 1 none) b one c → Writes Second (half 2 none) c two b' → Left measured_of Second (half 2 none) c two b'
    → Knows measured_of (known_of 2 (whether one 1 2) (whether two 2 2)) b'
    × (unpacked (payload_of (known_of 2 (whether one 1 2) (whether two 2 2)).newest b') ≡ [])
make-so true true b c b' z f s l = (
  ap (λ (x : Blocks). decoded measured_of x.second) s ∙ decoded-after measured_of steady 2 none c.second (omega arith) (omega arith) none-fits,
  ap (λ (x : Blocks). unpacked (payload_of (Some (good_of Second record { turn = 2; len = 2 })) x)) s ∙ ap unpacked (part-after 2 none c.second) ∙ none_read,
)
make-so true false b c b' z f s l =
    let e : b'.first ≡ over (half 1 none) b.first = s ∙ ap (λ (x : Blocks). x.first) f in (
      ap (decoded measured_of) e ∙ decoded-after measured_of steady 1 none b.first (omega arith) (omega arith) none-fits,
      ap (λ (x : List ℕ). unpacked (payload_of (Some (good_of First record { turn = 1; len = 2 })) record { first = x; second = b'.second })) e ∙ ap unpacked (part-after 1 none b.first) ∙ none_read,
    )
make-so false true b c b' z f s l = (
  ap (λ (x : Blocks). decoded measured_of x.second) s ∙ decoded-after measured_of steady 2 none c.second (omega arith) (omega arith) none-fits,
  ap (λ (x : Blocks). unpacked (payload_of (Some (good_of Second record { turn = 2; len = 2 })) x)) s ∙ ap unpacked (part-after 2 none c.second) ∙ none_read,
)
make-so false false b c b' z f s (Old, (j, e)) =
    ((λ k d. let y : Some k ≡ None = sym d ∙ ap (λ (x : Blocks). decoded measured_of x.second) e ∙ ap (decoded measured_of) f ∙ z in let q : ◌≡◌ {A = ℕ} 0 1 = cc in absurd (omega arith)), none-empty)
make-so false false b c b' z f s (New, (j, e)) = (
  (λ k d.
      let y : Some k ≡ Some record { turn = 2; len = 2 } = sym d ∙ ap (λ (x : Blocks). decoded measured_of x.second) e ∙ decoded-after measured_of steady 2 none c.second (omega arith) (omega arith) none-fits in
      let same : k ≡ record { turn = 2; len = 2 } = cc in
      let t : k.turn ≡ 2 = ap (λ (x : Half). x.turn) same in
      omega arith),
  none-empty,
)
make-so false false b c b' z f s (Junk x, (j, e)) =
    ((λ k d. let y : Some k ≡ None = sym d ∙ ap (λ (w : Blocks). decoded measured_of w.second) e ∙ j in let q : ◌≡◌ {A = ℕ} 0 1 = cc in absurd (omega arith)), none-empty)
