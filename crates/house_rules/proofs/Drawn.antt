-- Bytes taken one after another. Assumes nothing.
use Rattle.std.proofs.Common.{◌≡◌, ℕ, ◌+◌, ◌≤◌, List, length, drop, ap, ◌∙◌, arith, length-drop, drop-drop}

-- what is left after so many is enough
pub enough : (m n : ℕ) (bs xs : List ℕ) → n + m ≤ length bs → xs ≡ drop n bs → m ≤ length xs
enough m n bs xs h e = let k : length xs ≡ length (drop n bs) = ap length e in omega (arith, h, k, length-drop n bs)

-- so many, and then so many more
pub further : (m n : ℕ) (bs xs ys : List ℕ) → xs ≡ drop n bs → ys ≡ drop m xs → ys ≡ drop (n + m) bs
further m n bs xs ys e f = f ∙ ap (λ (l : List ℕ). drop m l) e ∙ drop-drop m n bs
