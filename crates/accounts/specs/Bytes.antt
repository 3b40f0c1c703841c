-- Accounts in bytes. Assumes nothing.
use Rattle.std.specs.Prelude.{◌≡◌, ℕ, zero, suc, ◌+◌, ◌-◌, ◌*◌, ◌/◌, ◌<◌, ◌≤◌, Bool, true, false, cond, ◌&&◌, leb, ◌⊎◌, List, [], ◌∷◌, ◌++◌, length, get_or, take, drop, Some, None, ◌≢◌, nat_le, slice_index, slice_index_or, refl}
use Rattle.accounts.specs.Entry.{entry}
use Rattle.accounts.specs.Payload.{are_low, low, measure, payload, readable}
use Rattle.halves.specs.Half.{Steady, payload_in}
use Rattle.parts.specs.declared.account.Account.{Account}
use Rattle.std.proofs.lemmas.List.{drop_at, drop-drop, get_or_append_left, get_or-drop, get_or-take, flat_map_more, length-append, length-drop, length-take-le, take-append-drop, take_at, take_more}
use Rattle.std.proofs.lemmas.Bool.{and_from, and_left, and_parts, and_right, cases_eq, cond-true, le-leb, leb-true}
use Rattle.std.proofs.Math.Bool.{and-true, and_assoc}
use Rattle.std.specs.Bool.{then_some}
use Rattle.std.specs.Simd.{first_chunks}
use Rattle.std.specs.List.{flat_map, list_all}
use borrow.Rule.Slice.PartMut.{put_mid}
use Rattle.std.proofs.Common.{inl, inr, ◌∙◌, ap, sym, add-one, arith}

-- one state that is above 2 is enough
pub low-false : (bs : List ℕ) (i n : ℕ) → nat_le (slice_index bs (33 * (i + 1))) 2 ≡ false → i < n → low bs n ≡ false
unfolding low
low-false bs i zero e h = absurd (omega arith)
low-false bs i (suc n) e h = go (λ (l : i < n). low-false bs i n e l) (cases_eq i n)
  where
    here : Bool
    here = nat_le (slice_index bs (33 * (n + 1))) 2

    go : (i < n → low bs n ≡ false) → (i ≡ n) ⊎ (i ≢ n) → low bs (suc n) ≡ false
    go r (inl q) = and_right (low bs n) here (ap (λ (k : ℕ). leb (slice_index bs (33 * (k + 1))) 2) (sym q) ∙ e)
    go r (inr q) = and_left (low bs n) here (r (omega arith))

pub low-more : (bs : List ℕ) (i : ℕ) → low bs i ≡ true → nat_le (slice_index bs (33 * (i + 1))) 2 ≡ true → low bs (i + 1) ≡ true
unfolding low
low-more bs i e h = ap (low bs) (add-one i) ∙ and_from (low bs i) (nat_le (slice_index bs (33 * (i + 1))) 2) e h

pub low-none : (bs : List ℕ) → low bs 0 ≡ true
unfolding low
low-none bs = refl

-- what follows does not matter
pub low-front : (p rest : List ℕ) (n : ℕ) → 33 * n < length p → low (p ++ rest) n ≡ low p n
unfolding low
low-front p rest zero h = refl
low-front p rest (suc n) h =
    let e : get_or (p ++ rest) (33 * (n + 1)) 0 ≡ get_or p (33 * (n + 1)) 0 = get_or_append_left p rest 0 (33 * (n + 1)) (omega arith) in
    let i : low (p ++ rest) n ≡ low p n = low-front p rest n (omega arith) in
    cc

-- a payload is measured alone as with anything behind it
pub measure-some : (p : List ℕ) (n : ℕ) → measure p ≡ Some n → (33792 ≤ length p) × (low p 1023 ≡ true) × (n ≡ 33792)
measure-some p n e = go (readable p) refl e
  where
    go : (v : Bool) → readable p ≡ v → cond v (Some 33792) None ≡ Some n → (33792 ≤ length p) × (low p 1023 ≡ true) × (n ≡ 33792)
    go true r f =
        let b = and_parts (nat_le 33792 (length p)) (low p 1023) r in
        (leb-true 33792 (length p) b.0, b.1, (cc))
    go false r f = let z : ◌≡◌ {A = ℕ} 0 1 = cc in absurd (omega arith)

pub measure-is : (p : List ℕ) → 33792 ≤ length p → low p 1023 ≡ true → measure p ≡ Some 33792
measure-is p l s = cond-true (readable p) (Some 33792) None (and_from (nat_le 33792 (length p)) (low p 1023) (le-leb 33792 (length p) l) s)

pub steady : Steady measure
steady p rest e =
    let k = measure-some p (length p) e in
    let l : 33792 ≤ length (p ++ rest) = omega (arith, length-append p rest, k.0) in
    measure-is (p ++ rest) l (low-front p rest 1023 (omega (arith, k.0)) ∙ k.1) ∙ ap Some (sym k.2)

-- one entry more
chunks-more : (k : ℕ) (xs : List ℕ) → first_chunks 33 (suc k) xs ≡ first_chunks 33 k xs ++ (take 33 (drop (33 * k) xs) ∷ [])
chunks-more zero xs = refl
chunks-more (suc k) xs =
    ap (λ (y : List (List ℕ)). take 33 xs ∷ y) (chunks-more k (drop 33 xs))
    ∙ ap (λ (y : List ℕ). take 33 xs ∷ (first_chunks 33 k (drop 33 xs) ++ (take 33 y ∷ []))) (drop-drop (33 * k) 33 xs ∙ ap (λ (j : ℕ). drop j xs) (omega arith))

-- an entry begins with its state
pub head_at : (bs : List ℕ) (i : ℕ) → get_or (take 33 (drop i bs)) 0 0 ≡ get_or bs i 0
head_at bs i =
    get_or-take 33 (drop i bs) 0 0 (omega arith) ∙ get_or-drop i bs 0 0 ∙ ap (λ (j : ℕ). get_or bs j 0) (omega arith)

list_all-push : (p : List ℕ → Bool) (xs : List (List ℕ)) (y : List ℕ) → list_all p (xs ++ (y ∷ [])) ≡ list_all p xs && p y
list_all-push p [] y = and-true (p y)
list_all-push p (x ∷ xs) y = ap (λ (v : Bool). p x && v) (list_all-push p xs y) ∙ sym (and_assoc (p x) (list_all p xs) (p y))

-- a state of at most 2
abbrev Low : List ℕ → Bool
Low e = leb (get_or e 0 0) 2

-- the states of the entries behind the first
low-rest : (bs : List ℕ) (k : ℕ) → list_all Low (first_chunks 33 k (drop 33 bs)) ≡ low bs k
unfolding low
low-rest bs zero = refl
low-rest bs (suc k) =
    let e : get_or (take 33 (drop (33 * k) (drop 33 bs))) 0 0 ≡ get_or bs (33 * (k + 1)) 0 =
    ap (λ (y : List ℕ). get_or (take 33 y) 0 0) (drop-drop (33 * k) 33 bs) ∙ head_at bs (33 + 33 * k) ∙ ap (λ (j : ℕ). get_or bs j 0) (omega arith) in
    ap (list_all Low) (chunks-more k (drop 33 bs))
    ∙ list_all-push Low (first_chunks 33 k (drop 33 bs)) (take 33 (drop (33 * k) (drop 33 bs)))
    ∙ ap (λ (v : Bool). v && Low (take 33 (drop (33 * k) (drop 33 bs)))) (low-rest bs k)
    ∙ ap (λ (v : ℕ). low bs k && leb v 2) e

low-entries : (bs : List ℕ) (m k : ℕ) → m ≡ suc k → are_low (first_chunks 33 m bs) ≡ low bs k
low-entries bs m k e = ap (λ (j : ℕ). are_low (first_chunks 33 j bs)) e ∙ low-rest bs k

-- it is measured by the entries at its front
pub measure-front : (bs p : List ℕ) (es : List (List ℕ)) → 33792 ≤ length bs → p ≡ take 33792 bs → es ≡ first_chunks 33 (length p / 33) p
    → then_some {T = ℕ} (are_low es) 33792 ≡ measure bs
measure-front bs p es h e f =
    let q = take 33792 bs in
    let l : length q ≡ 33792 = length-take-le 33792 bs h in
    let lp : length p ≡ 33792 = ap length e ∙ l in
    let g : are_low es ≡ low p 1023 = ap are_low f ∙ low-entries p (length p / 33) 1023 (omega arith) in
    let i : low p 1023 ≡ low bs 1023 =
    ap (λ (y : List ℕ). low y 1023) e ∙ sym (low-front q (drop 33792 bs) 1023 (omega arith)) ∙ ap (λ (y : List ℕ). low y 1023) (take-append-drop 33792 bs) in
    told (are_low es) ∙ ap (λ (v : Bool). cond v (Some 33792) None) (g ∙ i ∙ sym (ap (λ (v : Bool). v && low bs 1023) (le-leb 33792 (length bs) h)))
  where
    told : (v : Bool) → then_some {T = ℕ} v 33792 ≡ cond v (Some 33792) None
    told true = refl
    told false = refl

-- the entries of one account more
pub payload-more : (xs : List Account) (i : ℕ) (d : Account) → i < length xs → payload (take (i + 1) xs) ≡ payload (take i xs) ++ entry (slice_index_or xs i d)
unfolding payload
payload-more xs i d h = ap (flat_map entry) (take_more xs i d h) ∙ sym (flat_map_more entry [] (take i xs) (slice_index_or xs i d))

pub payload-none : (xs : List Account) → payload (take 0 xs) ≡ []
unfolding payload
payload-none xs = refl

-- a payload between room for the turn and room for the sum
pub length-mid : (x ys : List ℕ) → length x ≡ 33816 → length ys ≡ 33792 → length (put_mid 8 33792 x ys) ≡ 33816
length-mid x ys e f =
    let t : length (take 8 x) ≡ 8 = length-take-le 8 x (omega arith) in
    let d : length (drop 33792 (drop 8 x)) ≡ 16 = length-drop 33792 (drop 8 x) ∙ (omega (arith, length-drop 8 x)) in
    omega (arith, length-append (take 8 x) (ys ++ drop 33792 (drop 8 x)), length-append ys (drop 33792 (drop 8 x)))

pub payload-mid : (x ys : List ℕ) → length x ≡ 33816 → length ys ≡ 33792 → payload_in (put_mid 8 33792 x ys) ≡ ys
payload-mid x ys e f =
    let r = drop 33792 (drop 8 x) in
    let n : length (put_mid 8 33792 x ys) - 24 ≡ 33792 = omega (arith, length-mid x ys e f) in
    ap (λ (k : ℕ). take k (drop 8 (put_mid 8 33792 x ys))) n
    ∙ ap (take 33792) (drop_at (take 8 x) (ys ++ r) 8 (length-take-le 8 x (omega arith)))
    ∙ take_at ys r 33792 f
