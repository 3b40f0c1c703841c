-- Parts of a half. Assumes nothing.
use Rattle.std.proofs.Common.{◌≡◌, ℕ, ◌+◌, ◌-◌, ◌*◌, ◌≤◌, Bool, true, false, cond, ◌&&◌, List, [], ◌∷◌, Some, None, Option, ◌++◌, length, take, drop, sym, refl, ap, ◌∙◌, arith}
use Rattle.contents.specs.Field.{number}
use Rattle.std.specs.Bool.{then_some}
use Rattle.halves.specs.Half.{Measure, blank, decoded, fits, half, payload_in, sized, stamp, sum_of, summed}
use Rattle.halves.specs.declared.half.Half.{Half}
use Rattle.hash.proofs.Parts.{length-sha256}
use Rattle.hash.specs.Sha256.{sha256}
use Rattle.std.proofs.lemmas.List.{append_assoc, append-nil, drop_all, drop_at, drop-drop, length-append, length-drop, length-take-le, take_at}
use Rattle.std.proofs.lemmas.Bool.{le-leb}
use Rattle.std.specs.Prelude.{slice_index}
use Rattle.std.specs.Str.{bytes_eq}
use borrow.Rule.Slice.PartMut.{put_mid}
use lib.Seq.{take-append-add}

-- what is written at the very end
pub put-end : (n k : ℕ) (x ys : List ℕ) → length x ≤ n + k → put_mid n k x ys ≡ take n x ++ ys
put-end n k x ys h =
    ap (λ (z : List ℕ). take n x ++ (ys ++ z)) (drop-drop k n x ∙ drop_all (n + k) x h) ∙ ap (λ (z : List ℕ). take n x ++ z) (append-nil ys)

pub length-stamp : (t : ℕ) → length (stamp t) ≡ 8
unfolding stamp
length-stamp t = refl

pub length-sum_of : (bs : List ℕ) → length (sum_of bs) ≡ 16
length-sum_of bs = let l = length-sha256 bs in length-take-le 16 (sha256 bs) (omega arith)

-- a half has 24 bytes besides its payload
pub length-half : (t : ℕ) (p : List ℕ) → length (half t p) ≡ length p + 24
length-half t p =
    omega (arith, length-append (stamp t ++ p) (sum_of (stamp t ++ p)), length-append (stamp t) p, length-stamp t, length-sum_of (stamp t ++ p))

-- what a half has between turn and sum is its payload
pub payload_in-half : (t : ℕ) (p : List ℕ) → payload_in (half t p) ≡ p
payload_in-half t p =
    let s = sum_of (stamp t ++ p) in
    let n : length (half t p) - 24 ≡ length p = omega (arith, length-half t p) in
    ap (λ (k : ℕ). take k (drop 8 (half t p))) n
    ∙ ap (λ (y : List ℕ). take (length p) (drop 8 y)) (append_assoc (stamp t) p s)
    ∙ ap (take (length p)) (drop_at (stamp t) (p ++ s) 8 (length-stamp t))
    ∙ take_at p s (length p) refl

-- all but the sum, once the turn is written
pub without-sum : (s x : List ℕ) → length s ≡ 8 → 24 ≤ length x
    → take (length (s ++ drop 8 x) - 16) (s ++ drop 8 x) ≡ s ++ take (length x - 24) (drop 8 x)
without-sum s x e h =
    let l : length (s ++ drop 8 x) - 16 ≡ length s + (length x - 24) =
    omega (arith, length-append s (drop 8 x), length-drop 8 x) in
    ap (λ (n : ℕ). take n (s ++ drop 8 x)) l ∙ take-append-add s (drop 8 x) (length x - 24)

-- what is left of lent bytes once turn and sum are written: a half with their payload
pub made : (t : ℕ) (x ts ss : List ℕ) → 24 ≤ length x → ts ≡ stamp t → ss ≡ sum_of (take (length x - 16) (ts ++ drop 8 x))
    → put_mid (length x - 16) (length (ts ++ drop 8 x) - (length x - 16)) (ts ++ drop 8 x) ss ≡ half t (payload_in x)
made t x ts ss h e f =
    let y = ts ++ drop 8 x in
    let l : length ts ≡ 8 = ap length e ∙ length-stamp t in
    let n : length y ≡ length x = omega (arith, length-append ts (drop 8 x), length-drop 8 x) in
    let w : take (length x - 16) y ≡ ts ++ payload_in x = ap (λ (k : ℕ). take (k - 16) y) (sym n) ∙ without-sum ts x l h in
    put-end (length x - 16) (length y - (length x - 16)) y ss (omega arith)
    ∙ ap (λ (z : List ℕ). take (length x - 16) y ++ z) f
    ∙ ap summed (w ∙ ap (λ (z : List ℕ). z ++ payload_in x) e)

-- what is read of a block that is not blank, where all of a half has room for it
pub reads : (m : Measure) (x rest behind s d : List ℕ) (n t : ℕ) (b : Bool) → blank x ≡ false → rest ≡ drop 8 x → m rest ≡ Some n
    → n ≤ length rest → behind ≡ drop n rest → 16 ≤ length behind → s ≡ take 16 behind → d ≡ sum_of (take (8 + n) x) → b ≡ bytes_eq s d
    → t ≡ number (take 8 x) → then_some {T = Half} b record { turn = t; len = n } ≡ decoded m x
reads m x rest behind s d n t b e re me le be l se de q te =
    let w : 8 + n + 16 ≤ length x + 0 = omega (arith, ap length be, ap length re, length-drop n rest, length-drop 8 x) in
    let k : behind ≡ drop (8 + n) x = be ∙ ap (drop n) re ∙ drop-drop n 8 x in
    let z : s ≡ take 16 (drop (8 + n) x) = se ∙ ap (take 16) k in
    let same : b ≡ fits n x =
    q ∙ ap (λ (y : List ℕ). bytes_eq y d) z ∙ ap (bytes_eq (take 16 (drop (8 + n) x))) de
    ∙ sym (ap (λ (v : Bool). v && bytes_eq (take 16 (drop (8 + n) x)) (sum_of (take (8 + n) x))) (le-leb n (length x - 24) (omega arith))) in
    told b
    ∙ ap (λ (v : Bool). cond v (Some record { turn = t; len = n }) None) same
    ∙ ap (λ (y : ℕ). cond (fits n x) (Some record { turn = y; len = n }) None) te
    ∙ sym (ap (λ (o : Option ℕ). sized o x) (ap m (sym re) ∙ me))
    ∙ sym (ap (λ (v : Bool). cond v None (sized (m (drop 8 x)) x)) e)
  where
    told : (v : Bool) → then_some {T = Half} v record { turn = t; len = n } ≡ cond v (Some record { turn = t; len = n }) None
    told true = refl
    told false = refl

-- the number that eight bytes write, as one reads it of an array
pub number-eight : (xs : List ℕ) → length xs ≡ 8
    → slice_index xs 0 * 72057594037927936 + slice_index xs 1 * 281474976710656 + slice_index xs 2 * 1099511627776 + slice_index xs 3 * 4294967296
    + slice_index xs 4 * 16777216 + slice_index xs 5 * 65536 + slice_index xs 6 * 256 + slice_index xs 7 ≡ number xs
number-eight [] h = absurd (omega arith)
number-eight (a ∷ []) h = absurd (omega arith)
number-eight (a ∷ b ∷ []) h = absurd (omega arith)
number-eight (a ∷ b ∷ c ∷ []) h = absurd (omega arith)
number-eight (a ∷ b ∷ c ∷ d ∷ []) h = absurd (omega arith)
number-eight (a ∷ b ∷ c ∷ d ∷ e ∷ []) h = absurd (omega arith)
number-eight (a ∷ b ∷ c ∷ d ∷ e ∷ f ∷ []) h = absurd (omega arith)
number-eight (a ∷ b ∷ c ∷ d ∷ e ∷ f ∷ g ∷ []) h = absurd (omega arith)
number-eight (a ∷ b ∷ c ∷ d ∷ e ∷ f ∷ g ∷ i ∷ []) h = omega arith
number-eight (a ∷ b ∷ c ∷ d ∷ e ∷ f ∷ g ∷ i ∷ j ∷ xs) h = absurd (omega arith)
