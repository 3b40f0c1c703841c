-- What a lock made at the end of a word leaves.
use Rattle.std.proofs.Common.{◌≡◌, ℕ, ◌-◌, ltb, List, ◌++◌, length, take, drop, replicate, refl, ap, ◌∙◌, arith, length-append}
use Rattle.std.proofs.lemmas.List.{take_at, drop_at}
use Rattle.std.proofs.lemmas.Bool.{cond-false, le-ltb}
use Rattle.seal.specs.Lock.{lock, sealed, inside_of}

-- drawn bytes, inside and room, sealed
pub sealed-laid :
    (kind : ℕ) (key drawn inside : List ℕ) → length drawn ≡ 16
    → sealed kind key (drawn ++ (inside ++ replicate 16 0)) ≡ lock kind key drawn inside
unfolding sealed
sealed-laid kind key drawn inside fit =
    let w = drawn ++ (inside ++ replicate 16 0) in
    let a = length-append drawn (inside ++ replicate 16 0) in
    let b = length-append inside (replicate 16 0) in
    let c : length (replicate {A = ℕ} 16 0) ≡ 16 = refl in
    let n : length w - 32 ≡ length inside = omega arith in
    cond-false (ltb (length w) 32) w _ (le-ltb (length w) 32 (omega arith))
    ∙ ap (λ d. lock kind key d (inside_of w)) (take_at drawn (inside ++ replicate 16 0) 16 fit)
    ∙ ap (λ j. lock kind key drawn (take j (drop 16 w))) n
    ∙ ap (λ l. lock kind key drawn (take (length inside) l)) (drop_at drawn (inside ++ replicate 16 0) 16 fit)
    ∙ ap (lock kind key drawn) (take_at inside (replicate 16 0) (length inside) refl)

pub appended :
    (kind : ℕ) (key drawn inside was w : List ℕ) (at : ℕ) → length was ≡ at → length drawn ≡ 16
    → w ≡ was ++ (drawn ++ (inside ++ replicate 16 0))
    → take at w ++ sealed kind key (drop at w) ≡ was ++ lock kind key drawn inside
appended kind key drawn inside was w at n fit e =
    ap (λ l. l ++ sealed kind key (drop at w)) (ap (take at) e ∙ take_at was _ at n)
    ∙ ap (λ l. was ++ sealed kind key l) (ap (drop at) e ∙ drop_at was _ at n)
    ∙ ap (λ l. was ++ l) (sealed-laid kind key drawn inside fit)
