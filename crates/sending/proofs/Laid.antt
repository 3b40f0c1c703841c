-- Two parts of a memory written anew, one behind the other. Assumes nothing.
use Rattle.std.proofs.Common.{◌≡◌, ℕ, ◌+◌, List, ◌++◌, length, take, drop, sym, ap, ◌∙◌, append-nil, append_assoc, arith, length-append, length-drop}
use Rattle.std.proofs.lemmas.List.{drop_all, drop_at, length-take-le, take_at}
use borrow.Rule.Slice.PartMut.{put_mid}

-- what stands before both stays, and nothing stands behind them
pub two-laid : (at n m : ℕ) (out a b : List ℕ) → length out ≡ at + n + m → length a ≡ n
    → put_mid (at + n) m (put_mid at n out a) b ≡ take at out ++ (a ++ b)
two-laid at n m out a b long l =
    let front = take at out ++ a in
    let rest = drop n (drop at out) in
    let t = length-take-le at out (omega arith) in
    let s = length-append (take at out) a in
    let k : length front ≡ at + n = omega arith in
    let d = length-drop at out in
    let r = length-drop n (drop at out) in
    ap (λ w. take (at + n) w ++ (b ++ drop m (drop (at + n) w))) (sym (append_assoc (take at out) a rest))
    ∙ ap (λ p. p ++ (b ++ drop m (drop (at + n) (front ++ rest)))) (take_at front rest (at + n) k)
    ∙ ap (λ q. front ++ (b ++ drop m q)) (drop_at front rest (at + n) k)
    ∙ ap (λ q. front ++ (b ++ q)) (drop_all m rest (omega arith))
    ∙ ap (λ q. front ++ q) (append-nil b)
    ∙ append_assoc (take at out) a b
