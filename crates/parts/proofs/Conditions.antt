-- In a table that ascends the first fault is the lowest. Assumes nothing.
use Rattle.std.proofs.Common.{◌≡◌, ℕ, ◌≤◌, Bool, true, false, cond, leb, ◌⊎◌, List, [], ◌∷◌, ◌++◌, Some, None, Option, sym, refl, ap, ◌∙◌, subst, inl, inr, arith}
use Rattle.parts.specs.Condition.{Lowest, ascends, at_least, first_fault}
use Rattle.parts.specs.Fault.{fault_number}
use Rattle.parts.specs.declared.condition.Condition.{Condition}
use Rattle.parts.specs.declared.fault.Fault.{Fault}
use Rattle.std.proofs.lemmas.Bool.{and_parts, both_ways, leb-true}
use Rattle.std.specs.List.{find}
use Rattle.std.specs.Option.{option_map}
use mathlib.Core.List.Memᴰ
use mathlib.Core.List.{Memᴰ}

abbrev number_of : Condition → ℕ
number_of c = fault_number c.fault

above : (n : ℕ) (cs : List Condition) → at_least n cs ≡ true → (c : Condition) → Memᴰ c cs → n ≤ number_of c
above n [] h c m = absurd (Memᴰ.not-nil m)
above n (x ∷ xs) h c m = by (above (number_of x) xs (and_parts (leb n (number_of x)) _ h).1 c) (Memᴰ.cases_cons m)
  where
    here : n ≤ number_of x
    here = leb-true _ _ (and_parts (leb n (number_of x)) _ h).0

    by : (Memᴰ c xs → number_of x ≤ number_of c) → (c ≡ x) ⊎ Memᴰ c xs → n ≤ number_of c
    by _ (inl e) = let k : number_of c ≡ number_of x = ap (λ (y : Condition). number_of y) e in omega (arith, here, k)
    by below (inr k) = omega (arith, here, below k)

-- a row that is met leaves the lowest as it is
met : (x : Condition) (xs : List Condition) → x.fails ≡ false → (o : Option Fault) → Lowest xs o → Lowest (x ∷ xs) o
met x xs h None l = λ c m. by c (Memᴰ.cases_cons m)
  where
    by : (c : Condition) → (c ≡ x) ⊎ Memᴰ c xs → c.fails ≡ false
    by c (inl e) = ap (λ (y : Condition). y.fails) e ∙ h
    by c (inr k) = l c k
met x xs h (Some f) l = ((l.0.0, Memᴰ.tail l.0.1, l.0.2, l.0.3), λ c m t. by c t (Memᴰ.cases_cons m))
  where
    by : (c : Condition) → c.fails ≡ true → (c ≡ x) ⊎ Memᴰ c xs → fault_number f ≤ number_of c
    by c t (inl e) = absurd (both_ways c.fails (ap (λ (y : Condition). y.fails) e ∙ h) t)
    by c t (inr k) = l.1 c k t

pub lowest-from : (n : ℕ) (cs : List Condition) → at_least n cs ≡ true → Lowest cs (first_fault cs)
unfolding first_fault
lowest-from n [] h = λ c m. absurd (Memᴰ.not-nil m)
lowest-from n (x ∷ xs) h = by (lowest-from (number_of x) xs (and_parts (leb n (number_of x)) _ h).1) x.fails refl
  where
    rest : at_least (number_of x) xs ≡ true
    rest = (and_parts (leb n (number_of x)) _ h).1

    low : (c : Condition) → (c ≡ x) ⊎ Memᴰ c xs → number_of x ≤ number_of c
    low c (inl e) = let k : number_of c ≡ number_of x = ap (λ (y : Condition). number_of y) e in omega (arith, k)
    low c (inr k) = above (number_of x) xs rest c k

    by : Lowest xs (first_fault xs) → (b : Bool) → x.fails ≡ b → Lowest (x ∷ xs) (cond b (Some x.fault) (first_fault xs))
    by _ true e = ((x, Memᴰ.head refl, e, refl), λ c m _. low c (Memᴰ.cases_cons m))
    by l false e = met x xs e (first_fault xs) l

pub lowest-first : (cs : List Condition) (o : Option Fault) → o ≡ first_fault cs → ascends cs ≡ true → Lowest cs o
lowest-first cs o e h = subst (λ (p : Option Fault). Lowest cs p) (sym e) (lowest-from 0 cs h)

pub first_fault-nil : first_fault [] ≡ None
unfolding first_fault
first_fault-nil = refl

pub first_fault-cons : (c : Condition) (cs : List Condition) → first_fault (c ∷ cs) ≡ cond c.fails (Some c.fault) (first_fault cs)
unfolding first_fault
first_fault-cons c cs = refl

-- where there is none, each row is met
pub passed : (c : Condition) (cs : List Condition) → first_fault (c ∷ cs) ≡ None → (c.fails ≡ false) × (first_fault cs ≡ None)
unfolding first_fault
passed c cs = by c.fails
  where
    by : (b : Bool) → cond b (Some c.fault) (first_fault cs) ≡ None → (b ≡ false) × (first_fault cs ≡ None)
    by true e = ((cc), (cc))
    by false e = (refl, e)

-- one row more
pub first_fault-last-some : (cs ds : List Condition) (f : Fault) → Some f ≡ first_fault cs → first_fault (cs ++ ds) ≡ Some f
unfolding first_fault
first_fault-last-some [] ds f e = cc
first_fault-last-some (c ∷ cs) ds f e = by (first_fault-last-some cs ds f) c.fails e
  where
    by : (Some f ≡ first_fault cs → first_fault (cs ++ ds) ≡ Some f) → (b : Bool) → Some f ≡ cond b (Some c.fault) (first_fault cs) → cond b (Some c.fault) (first_fault (cs ++ ds)) ≡ Some f
    by _ true e = sym e
    by more false e = more e

pub first_fault-last-none : (cs ds : List Condition) → first_fault cs ≡ None → first_fault (cs ++ ds) ≡ first_fault ds
unfolding first_fault
first_fault-last-none [] ds e = refl
first_fault-last-none (c ∷ cs) ds e = by (first_fault-last-none cs ds) c.fails e
  where
    by : (first_fault cs ≡ None → first_fault (cs ++ ds) ≡ first_fault ds) → (b : Bool) → cond b (Some c.fault) (first_fault cs) ≡ None → cond b (Some c.fault) (first_fault (cs ++ ds)) ≡ first_fault ds
    by _ true e = cc
    by more false e = more e

-- what `find` finds is the first
pub first_by_find : (cs : List Condition) → option_map (λ (c : Condition). c.fault) (find (λ (c : Condition). c.fails) cs) ≡ first_fault cs
unfolding first_fault
first_by_find [] = refl
first_by_find (c ∷ cs) = by c cs c.fails (first_by_find cs)
  where
    by : (d : Condition) (ds : List Condition) (b : Bool) → option_map (λ (c : Condition). c.fault) (find (λ (c : Condition). c.fails) ds) ≡ first_fault ds → option_map (λ (c : Condition). c.fault) (cond b (Some d) (find (λ (c : Condition). c.fails) ds)) ≡ cond b (Some d.fault) (first_fault ds)
    by d ds true h = refl
    by d ds false h = h
