-- The block of a key, and its bytes XORed in place.
use Rattle.std.proofs.Common.{◌≡◌, ℕ, ◌+◌, ◌-◌, ◌<◌, ◌≤◌, false, cond, ltb, List, ◌++◌, length, get_or, take, drop, set, replicate, sym, ap, ◌∙◌, append-nil, zero-add}
use lib.Bits.{bit_xor}
use Rattle.std.proofs.lemmas.List.{drop-replicate, take_all, drop_all, get_or_default}
use Rattle.std.proofs.lemmas.List.Edits.{map_over_more}
use Rattle.hash.specs.Sha256.{sha256}
use Rattle.hash.specs.Hmac.{filled, block_key, masked, hmac}
use Rattle.hash.proofs.Parts.{length-sha256}

-- a key written to the front of a block of zeros
pub filled_is : (k : List ℕ) → take 0 (replicate 64 0) ++ (k ++ drop (0 + length k) (replicate 64 0)) ≡ filled k
filled_is k =
    ap (λ l. k ++ l) (drop-replicate (0 + length k) 64 0) ∙ ap (λ n. k ++ replicate (64 - n) 0) (zero-add (length k))

pub block_key-short : (k : List ℕ) → ltb 64 (length k) ≡ false → filled k ≡ block_key k
block_key-short k e = ap (λ t. filled (cond t (sha256 k) k)) (sym e)

pub masked-more :
    (pad i : ℕ) (xs ys : List ℕ) → i < length xs → i < length ys → ys ≡ masked pad (take i xs) ++ drop i xs
    → set ys i (bit_xor (get_or ys i 0) pad) ≡ masked pad (take (i + 1) xs) ++ drop (i + 1) xs
masked-more pad i xs ys lt lt' e =
    map_over_more (λ b. bit_xor b pad) xs ys i (get_or ys i 0) lt e (get_or_default ys i 0 (get_or ys i 0) lt')

pub masked-all :
    (pad i : ℕ) (xs ys : List ℕ) → length xs ≤ i → ys ≡ masked pad (take i xs) ++ drop i xs → ys ≡ masked pad xs
masked-all pad i xs ys le e =
    e ∙ ap (λ l. masked pad l ++ drop i xs) (take_all i xs le) ∙ ap (λ l. masked pad xs ++ l) (drop_all i xs le)
    ∙ append-nil (masked pad xs)

pub length-hmac : (key m : List ℕ) → length (hmac key m) ≡ 32
unfolding hmac
length-hmac key m = length-sha256 _
