-- Numbers written one after the other.
use Rattle.std.proofs.Common.{◌≡◌, ℕ, ◌+◌, ◌<◌, ◌≤◌, List, length, get_or, drop, sym, ap, ◌∙◌}
use Rattle.play.specs.Say.{then_number, then_numbers}
use Rattle.std.proofs.lemmas.List.{drop_all, drop_more}

-- one more
pub numbers_more : (t s : List ℕ) (xs : List ℕ) (i n : ℕ) (z : List ℕ) → i < length xs → get_or xs i 0 ≡ n → s ≡ then_number t n → then_numbers t (drop i xs) ≡ z → then_numbers s (drop (i + 1) xs) ≡ z
unfolding then_numbers
numbers_more t s xs i n z h e x y =
    ap (λ u. then_numbers u (drop (i + 1) xs)) (x ∙ ap (λ m. then_number t m) (sym e)) ∙ ap (λ ys. then_numbers t ys) (sym (drop_more xs i 0 h)) ∙ y

-- all of them
pub numbers-all : (t : List ℕ) (xs : List ℕ) (i : ℕ) (z : List ℕ) → length xs ≤ i → then_numbers t (drop i xs) ≡ z → t ≡ z
unfolding then_numbers
numbers-all t xs i z h y = sym (ap (λ ys. then_numbers t ys) (drop_all i xs h)) ∙ y
