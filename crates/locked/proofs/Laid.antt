-- A lock laid into memory and sealed there. Assumes nothing.
use Rattle.std.proofs.Common.{◌≡◌, ℕ, ◌+◌, ◌-◌, ltb, ◌++◌, length, take, drop, refl, ap, ◌∙◌, arith, length-append, length-drop}
use Rattle.seal.specs.Lock.{Bytes, inside_of, lock, sealed}
use Rattle.std.proofs.lemmas.List.{drop_at, take_at}
use Rattle.std.proofs.lemmas.Bool.{cond-false, le-ltb}
use borrow.Rule.Slice.PartMut.{put_mid}

-- drawn bytes, inside and room for the sum, sealed
sealed-full :
    (kind : ℕ) (key drawn inside rest : Bytes) → length drawn ≡ 16 → length rest ≡ 16
    → sealed kind key (drawn ++ (inside ++ rest)) ≡ lock kind key drawn inside
unfolding sealed
sealed-full kind key drawn inside rest fit room =
    let w = drawn ++ (inside ++ rest) in
    let a = length-append drawn (inside ++ rest) in
    let b = length-append inside rest in
    let n : length w - 32 ≡ length inside = omega arith in
    cond-false (ltb (length w) 32) w _ (le-ltb (length w) 32 (omega arith))
    ∙ ap (λ d. lock kind key d (inside_of w)) (take_at drawn (inside ++ rest) 16 fit)
    ∙ ap (λ j. lock kind key drawn (take j (drop 16 w))) n
    ∙ ap (λ l. lock kind key drawn (take (length inside) l)) (drop_at drawn (inside ++ rest) 16 fit)
    ∙ ap (lock kind key drawn) (take_at inside rest (length inside) refl)

-- the same where the inside is written behind the drawn bytes
pub sealed-laid :
    (kind : ℕ) (key drawn inside rest : Bytes) (n : ℕ) → length drawn ≡ 16 → length rest ≡ n + 16
    → sealed kind key (put_mid 16 n (drawn ++ rest) inside) ≡ lock kind key drawn inside
sealed-laid kind key drawn inside rest n fit room =
    let l = length-drop n rest in
    ap (λ d. sealed kind key (d ++ (inside ++ drop n (drop 16 (drawn ++ rest))))) (take_at drawn rest 16 fit)
    ∙ ap (λ r. sealed kind key (drawn ++ (inside ++ drop n r))) (drop_at drawn rest 16 fit)
    ∙ sealed-full kind key drawn inside (drop n rest) fit (omega arith)
