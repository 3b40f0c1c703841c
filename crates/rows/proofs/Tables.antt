-- The tables of a box, and what an asking for the house says. Assumes nothing.
use Rattle.std.proofs.Common.{◌≡◌, ℕ, zero, suc, ◌+◌, ◌*◌, ◌/◌, ◌%◌, ◌<◌, Bool, true, false, cond, not, eqb, ◌⊎◌, List, [], ◌∷◌, length, get_or, take, set, replicate, Some, None, Option, sym, refl, ap, ◌∙◌, subst, inl, inr, arith, length-set, get_or-set_other, get_or-set_same}
use mathlib.Core.List.Memᴰ
use mathlib.Core.List.{Memᴰ}
use lib.ListN.{length-replicate}
use Rattle.std.specs.Str.{bytes_eq}
use Rattle.parts.specs.declared.word.Number.{Number}
use Rattle.box_rules.specs.Chest.{two_bytes}
use Rattle.box_rules.specs.Line.{pass_of, pass_by}
use Rattle.box_rules.specs.Table.{put, without, matches, older, oldest}
use Rattle.box_rules.specs.declared.line.Held.{Held}
use Rattle.box_rules.specs.declared.line.Pass.{Pass}
use Rattle.box_rules.specs.declared.line.Pending.{Pending}
use Rattle.box_rules.specs.declared.line.Sought.{Sought}
use Rattle.tickets.specs.Term.{Term, Num, Gets, num, pair}
use Rattle.tickets.specs.Term
use Rattle.tickets.specs.State.{is_in}
use Rattle.tickets.proofs.Bools.{clash, either}
use Rattle.tickets.proofs.Steps.{is_in-cases}
use Rattle.rows.specs.Name.{Bytes, spell}
use Rattle.rows.proofs.Names.{same_refl}

-- whatever is spelled anybody can write
pub gets-spell : (air : List Term) (bs : Bytes) → Gets air (spell bs)
unfolding spell
gets-spell air [] = Term.num 0
gets-spell air (b ∷ bs) = Term.pair (Term.num b) (gets-spell air bs)

-- what is among the first stands in the list
pub mem-take : {A : Type 0} (k : ℕ) (xs : List A) (x : A) → Memᴰ x (take k xs) → Memᴰ x xs
mem-take zero xs x h = absurd (Memᴰ.not-nil h)
mem-take (suc k) [] x h = h
mem-take {A} (suc k) (y ∷ ys) x h = go (mem-take k ys x) (Memᴰ.cases_cons h)
  where
    go : (Memᴰ x (take k ys) → Memᴰ x ys) → (x ≡ y) ⊎ Memᴰ x (take k ys) → Memᴰ x (y ∷ ys)
    go rest (inl e) = Memᴰ.head e
    go rest (inr m) = Memᴰ.tail (rest m)

-- what is in a table into which one was put is that one, or was there
pub put-cases : {A : Type 0} (x : A) (xs : List A) (y : A) → Memᴰ y (put x xs) → (y ≡ x) ⊎ Memᴰ y xs
put-cases x xs y h = Memᴰ.cases_cons (mem-take 16 (x ∷ xs) y h)

-- what is left without a number was there, with another
pub without-there : (n : Number) (xs : List Pending) (p : Pending) → Memᴰ p (without n xs) → Memᴰ p xs × (p.number.0 ≡ n.0 → ⊥)
without-there n [] p h = absurd (Memᴰ.not-nil h)
without-there n (x ∷ xs) p h = go (without-there n xs p) (bytes_eq x.number.0 n.0) refl h
  where
    there : Memᴰ p xs × (p.number.0 ≡ n.0 → ⊥) → Memᴰ p (x ∷ xs) × (p.number.0 ≡ n.0 → ⊥)
    there q = (Memᴰ.tail q.0, q.1)

    here : (Memᴰ p (without n xs) → Memᴰ p xs × (p.number.0 ≡ n.0 → ⊥)) → bytes_eq x.number.0 n.0 ≡ false → (p ≡ x) ⊎ Memᴰ p (without n xs)
        → Memᴰ p (x ∷ xs) × (p.number.0 ≡ n.0 → ⊥)
    here rest e (inl f) = (
      Memᴰ.head f,
      λ i. clash (subst (λ (y : Bytes). bytes_eq x.number.0 y ≡ true) (ap (λ (y : Pending). y.number.0) (sym f) ∙ i) (same_refl x.number.0)) e,
    )
    here rest e (inr m) = there (rest m)

    go : (Memᴰ p (without n xs) → Memᴰ p xs × (p.number.0 ≡ n.0 → ⊥)) → (b : Bool) → bytes_eq x.number.0 n.0 ≡ b
        → Memᴰ p (cond (not b) (x ∷ without n xs) (without n xs)) → Memᴰ p (x ∷ xs) × (p.number.0 ≡ n.0 → ⊥)
    go rest true e k = there (rest k)
    go rest false e k = here rest e (Memᴰ.cases_cons k)

-- what is found among those under way is there, and is what was sought
pub oldest-found : (s : Sought) (xs : List Pending) (p : Pending) → oldest s xs ≡ Some p → Memᴰ p xs × (matches s p ≡ true)
oldest-found s [] p e = absurd (let z : ◌≡◌ {A = ℕ} 0 1 = cc in omega arith)
oldest-found s (x ∷ xs) p e = go (oldest-found s xs p) (oldest s xs) (matches s x) refl refl e
  where
    go : (oldest s xs ≡ Some p → Memᴰ p xs × (matches s p ≡ true)) → (o : Option Pending) (b : Bool) → oldest s xs ≡ o → matches s x ≡ b
        → older o (cond b (Some x) None) ≡ Some p → Memᴰ p (x ∷ xs) × (matches s p ≡ true)
    go rest (Some y) b f g h = let q = rest (f ∙ h) in (Memᴰ.tail q.0, q.1)
    go rest None true f g h =
        let i : x ≡ p = cc in
        (Memᴰ.head (sym i), subst (λ (y : Pending). matches s y ≡ true) i g)
    go rest None false f g h = absurd (let z : ◌≡◌ {A = ℕ} 0 1 = cc in omega arith)

-- a ticket that is found is held
pub pass-held : {T : Type 0} (i : ℕ) (hs : List (Held T)) (q : Pass) → pass_of i hs ≡ Some q → (h : Held T) × Memᴰ h hs × (h.pass ≡ q)
pass-held i [] q e = absurd (let z : ◌≡◌ {A = ℕ} 0 1 = cc in omega arith)
pass-held {T} i (h ∷ hs) q e = go (pass-held i hs q) (eqb h.pass.id i) e
  where
    go : (pass_of i hs ≡ Some q → (h : Held T) × Memᴰ h hs × (h.pass ≡ q)) → (b : Bool) → cond b (Some h.pass) (pass_of i hs) ≡ Some q
        → (x : Held T) × Memᴰ x (h ∷ hs) × (x.pass ≡ q)
    go rest true f = (h, Memᴰ.head refl, (cc))
    go rest false f = let r = rest f in (r.0, Memᴰ.tail r.1, r.2)

pub pass-by : {T : Type 0} (by : Option ℕ) (hs : List (Held T)) (q : Pass) → pass_by by hs ≡ Some q → (h : Held T) × Memᴰ h hs × (h.pass ≡ q)
pass-by None hs q e = absurd (let z : ◌≡◌ {A = ℕ} 0 1 = cc in omega arith)
pass-by (Some i) hs q e = pass-held i hs q e

-- a service's number in two bytes, read again
pub two_bytes_lem : (v : ℕ) → get_or (two_bytes v).bytes 0 0 * 256 + get_or (two_bytes v).bytes 1 0 ≡ v
two_bytes_lem v = two (replicate {A = ℕ} 1024 0) (length-replicate {A = ℕ} 1024 0)
  where
    two : (xs : List ℕ) → length xs ≡ 1024 → get_or (set (set xs 0 (v / 256)) 1 (v % 256)) 0 0 * 256 + get_or (set (set xs 0 (v / 256)) 1 (v % 256)) 1 0 ≡ v
    two xs l =
        let len : 1 < length (set xs 0 (v / 256)) = simp length-set (omega arith) in
        let low : 0 < length xs = omega arith in
        let a : get_or (set (set xs 0 (v / 256)) 1 (v % 256)) 0 0 ≡ v / 256 =
        get_or-set_other (set xs 0 (v / 256)) 1 0 (v % 256) 0 (omega arith) ∙ get_or-set_same xs 0 (v / 256) 0 low
        in
        let b : get_or (set (set xs 0 (v / 256)) 1 (v % 256)) 1 0 ≡ v % 256 = get_or-set_same (set xs 0 (v / 256)) 1 (v % 256) 0 len in
        omega arith

-- a number that is not the one taken now was not taken
pub not-taken-more : (n m : ℕ) (xs : List ℕ) → is_in n xs ≡ false → (n ≡ m → ⊥) → is_in n (m ∷ xs) ≡ false
not-taken-more n m xs h d = go (either (is_in n (m ∷ xs)))
  where
    old : (n ≡ m) ⊎ (is_in n xs ≡ true) → ⊥
    old (inl e) = d e
    old (inr e) = clash e h

    go : (is_in n (m ∷ xs) ≡ true) ⊎ (is_in n (m ∷ xs) ≡ false) → is_in n (m ∷ xs) ≡ false
    go (inl e) = absurd (old (is_in-cases n m xs e))
    go (inr e) = e
