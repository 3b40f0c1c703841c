-- Accounts in bytes are read back. Assumes nothing.
use Rattle.std.proofs.Common.{◌≡◌, ℕ, zero, suc, ◌+◌, ◌*◌, ◌<◌, ◌≤◌, Bool, true, false, cond, eqb, leb, ◌⊎◌, List, [], ◌∷◌, ◌++◌, length, get_or, take, drop, sym, refl, ap, ◌∙◌, subst, inl, inr, arith}
use Rattle.account_laws.specs.Codec.{Back, ByValue, Full}
use Rattle.accounts.specs.Bytes.{head_at, measure-is}
use Rattle.accounts.specs.Entry.{Sized, account_in, entry, key_bytes, state_of, stated}
use Rattle.accounts.specs.Payload.{account_at, accounts_in, low, payload}
use Rattle.house_rules.specs.Account.{account_of}
use Rattle.parts.specs.declared.account.Account.{Account}
use Rattle.parts.specs.declared.account.Account.TheVariants.{Absent, Closed, Open}
use Rattle.parts.specs.declared.word.Key.{Key}
use Rattle.std.proofs.lemmas.List.FromFn.{fill_by_all, get_or-map-range_with_len, length-map-range_with_len}
use Rattle.std.proofs.lemmas.List.{drop_at, drop-drop, get_or_past, length-append, length-drop, length-take-le, take_all, take_at}
use Rattle.std.proofs.lemmas.Bool.{and_from, cases_eq, cases_lt, cond-false, le-leb, ne_eqb}
use Rattle.std.specs.List.{flat_map}

length-entry : (a : Account) → Sized a → length (entry a) ≡ 33
length-entry a s = ap suc s

-- an account that was written is read back
in_entry : (a : Account) → Sized a → account_in (entry a) ≡ a
in_entry Absent s = refl
in_entry (Open k) s = ap (λ (bs : List ℕ). Open record { 0 = bs }) (take_all 32 k.0 (omega arith))
in_entry (Closed k) s = ap (λ (bs : List ℕ). Closed record { 0 = bs }) (take_all 32 k.0 (omega arith))

abbrev Keyed : List Account → Type 0
Keyed xs = (n : ℕ) → Sized (account_of xs n)

keyed-rest : (x : Account) (xs : List Account) → Keyed (x ∷ xs) → Keyed xs
keyed-rest x xs k n = k (suc n)

length-joined : (xs : List Account) → Keyed xs → length (flat_map entry xs) ≡ 33 * length xs
length-joined [] k = refl
length-joined (x ∷ xs) k =
    let i = length-joined xs (keyed-rest x xs k) in
    let e = length-entry x (k 0) in
    omega (arith, length-append (entry x) (flat_map entry xs))

-- the entry of a number stands at 33 times it
entry_at : (xs : List Account) → Keyed xs → (n : ℕ) → n < length xs → take 33 (drop (33 * n) (flat_map entry xs)) ≡ entry (account_of xs n)
entry_at [] k n h = absurd (omega arith)
entry_at (x ∷ xs) k zero h = take_at (entry x) (flat_map entry xs) 33 (length-entry x (k 0))
entry_at (x ∷ xs) k (suc n) h =
    let m : 33 * suc n ≡ 33 + 33 * n = omega arith in
    let e : drop (33 * suc n) (entry x ++ flat_map entry xs) ≡ drop (33 * n) (flat_map entry xs) =
    ap (λ (j : ℕ). drop j (entry x ++ flat_map entry xs)) m
    ∙ sym (drop-drop (33 * n) 33 (entry x ++ flat_map entry xs))
    ∙ ap (drop (33 * n)) (drop_at (entry x) (flat_map entry xs) 33 (length-entry x (k 0))) in
    ap (take 33) e ∙ entry_at xs (keyed-rest x xs k) n (omega arith)

state-low : (a : Account) → state_of a ≤ 2
state-low Absent = omega arith
state-low (Open k) = omega arith
state-low (Closed k) = omega arith

pub low-from : (bs : List ℕ) (m : ℕ) → ((n : ℕ) → n < m → get_or bs (33 * (n + 1)) 0 ≤ 2) → low bs m ≡ true
unfolding low
low-from bs zero h = refl
low-from bs (suc m) h =
    and_from (low bs m) (leb (get_or bs (33 * (m + 1)) 0) 2) (low-from bs m (λ n l. h n (omega arith))) (le-leb _ 2 (h m (omega arith)))

pub back : Back
unfolding accounts_in payload
back xs f =
    let bs = flat_map entry xs in
    let l : length bs ≡ 33792 = omega (arith, length-joined xs f.keyed, f.count) in
    let s : (n : ℕ) → n < 1023 → get_or bs (33 * (n + 1)) 0 ≤ 2 = λ n h.
    let e = entry_at xs f.keyed (n + 1) (omega (arith, f.count)) in
    let q : get_or bs (33 * (n + 1)) 0 ≡ state_of (account_of xs (n + 1)) = sym (head_at bs (33 * (n + 1))) ∙ ap (λ (y : List ℕ). get_or y 0 0) e in
    let u = state-low (account_of xs (n + 1)) in
    omega arith in
    let each : (n : ℕ) → n < 1024 → get_or xs n Absent ≡ account_at bs n = λ n h. go n h (cases_eq n 0) in
    (l, measure-is bs (omega arith) (low-from bs 1023 s), sym (fill_by_all (account_at bs) xs 1024 Absent f.count each))
  where
    go : (n : ℕ) → n < 1024 → (n ≡ 0) ⊎ (n ≡ 0 → ⊥) → get_or xs n Absent ≡ account_at (flat_map entry xs) n
    go n h (inl z) =
        ap (λ (j : ℕ). get_or xs j Absent) z ∙ f.nobody
        ∙ sym (ap (λ (j : ℕ). account_at (flat_map entry xs) j) z)
    go n h (inr z) =
        let bs = flat_map entry xs in
        sym (cond-false (eqb n 0) Absent (account_in (take 33 (drop (33 * n) bs))) (ne_eqb n 0 z)
        ∙ ap account_in (entry_at xs f.keyed n (omega (arith, f.count)))
        ∙ in_entry (account_of xs n) (f.keyed n))

sized-stated : (s : ℕ) (k : Key) → length k.0 ≡ 32 → Sized (stated s k)
sized-stated s k l = go (eqb s 0) (eqb s 1)
  where
    go : (x y : Bool) → Sized (cond x Absent (cond y (Open k) (Closed k)))
    go true y = refl
    go false true = l
    go false false = l

sized-at : (p : List ℕ) → length p ≡ 33792 → (n : ℕ) → n < 1024 → Sized (account_at p n)
sized-at p l n h = go (eqb n 0)
  where
    x : List ℕ
    x = take 33 (drop (33 * n) p)

    lx : length x ≡ 33
    lx = length-take-le 33 (drop (33 * n) p) (omega (arith, length-drop (33 * n) p))

    go : (v : Bool) → Sized (cond v Absent (account_in x))
    go true = refl
    go false = sized-stated (get_or x 0 0) (key_bytes x) (length-take-le 32 (drop 1 x) (omega (arith, length-drop 1 x, lx)))

-- what is read is the account of each number
pub at_in : (p : List ℕ) (n : ℕ) → n < 1024 → account_of (accounts_in p) n ≡ account_at p n
unfolding accounts_in
at_in p n h = get_or-map-range_with_len (account_at p) 0 1024 n n Absent h (omega arith)

pub length-in : (p : List ℕ) → length (accounts_in p) ≡ 1024
unfolding accounts_in
length-in p = length-map-range_with_len (account_at p) 0 1024

pub full-in : (p : List ℕ) → length p ≡ 33792 → Full (accounts_in p)
full-in p l = record {
  count = length-in p;
  nobody = at_in p 0 (omega arith);
  keyed = λ n. go n (cases_lt n 1024);
}
  where
    go : (n : ℕ) → (n < 1024) ⊎ (1024 ≤ n) → Sized (account_of (accounts_in p) n)
    go n (inl h) = let P : Account → Type 0 = λ a. Sized a in subst P (sym (at_in p n h)) (sized-at p l n h)
    go n (inr h) =
        let P : Account → Type 0 = λ a. Sized a in
        subst P (sym (get_or_past (accounts_in p) n Absent (omega (arith, length-in p)))) refl

pub by_value : ByValue
by_value p l s = (
  measure-is p (omega arith) (low-from p 1023 (λ n h. s (n + 1) (omega arith) (omega arith))),
  full-in p l,
  (λ n z h. at_in p n h ∙ cond-false (eqb n 0) Absent (account_in (take 33 (drop (33 * n) p))) (ne_eqb n 0 (omega arith))),
)
