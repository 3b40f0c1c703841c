-- The oldest line that fits, and what is spent by it; the own key of a number as it is looked up. Assumes nothing.
use Rattle.std.proofs.Common.{◌≡◌, ℕ, zero, suc, ◌+◌, ◌<◌, Bool, true, false, cond, eqb, List, [], ◌∷◌, map, length, get_or, set, Some, None, refl, ap, ◌∙◌, sym, arith}
use Rattle.judge_rules.specs.Judge.{Act, Noted, fits, key_of, oldest, plain, spend, spent_line}
use Rattle.judge_rules.specs.declared.record.Line.{Line}
use Rattle.judge_rules.specs.declared.record.Principal.{Principal}
use Rattle.std.proofs.lemmas.Iterator.Adapters.{position_from-zero}
use Rattle.std.proofs.lemmas.List.Quantifiers.{position-Some}
use Rattle.std.specs.List.{find, position, position_from}
use Rattle.std.specs.Option.{option_map}

abbrev pub spent_one : Line → Line
spent_one l = record { wanted = l.wanted; spent = true }

-- what is found by `find` is the first
pub key_by_find : (m : ℕ) (ps : List Principal) → option_map (λ (p : Principal). p.key) (find (λ (p : Principal). eqb p.number m) ps) ≡ key_of m ps
key_by_find m [] = refl
key_by_find m (p ∷ ps) = by (eqb p.number m) (key_by_find m ps)
  where
    by : (b : Bool) → option_map (λ (p : Principal). p.key) (find (λ (p : Principal). eqb p.number m) ps) ≡ key_of m ps
        → option_map (λ (p : Principal). p.key) (cond b (Some p) (find (λ (p : Principal). eqb p.number m) ps)) ≡ cond b (Some p.key) (key_of m ps)
    by true h = refl
    by false h = h

module _ (lag : ℕ) (a : Act) where
  abbrev pub fit : Line → Bool
  fit l = fits lag a (plain l)

  -- no line fits, and k came before these
  none-fits : (k : ℕ) (ls : List Line) → position_from fit k ls ≡ None → (oldest lag a k (map plain ls) ≡ None) × (spend lag a (map plain ls) ≡ map plain ls)
  none-fits k [] e = (refl, refl)
  none-fits k (l ∷ ls) e = by (fit l) e (none-fits (k + 1) ls)
    where
      by : (b : Bool) → cond b (Some k) (position_from fit (k + 1) ls) ≡ None
          → (position_from fit (k + 1) ls ≡ None → (oldest lag a (k + 1) (map plain ls) ≡ None) × (spend lag a (map plain ls) ≡ map plain ls))
          → (cond b (Some (record { index = k; at = l.wanted.at })) (oldest lag a (k + 1) (map plain ls)) ≡ None)
          × (cond b (spent_line (plain l) ∷ map plain ls) (plain l ∷ spend lag a (map plain ls)) ≡ plain l ∷ map plain ls)
      by true e h = cc
      by false e h = ((h e).0, ap (λ (ns : List Noted). plain l ∷ ns) (h e).1)

  pub none : (ls : List Line) → position fit ls ≡ None → (oldest lag a 0 (map plain ls) ≡ None) × (spend lag a (map plain ls) ≡ map plain ls)
  none ls e = none-fits 0 ls (sym (position_from-zero fit ls) ∙ e)

  -- the first that fits, and k came before these
  first-fits : (k : ℕ) (ls : List Line) (i : ℕ) (d : Line) → i < length ls → fit (get_or ls i d) ≡ true → ((j : ℕ) → j < i → fit (get_or ls j d) ≡ false)
      → (oldest lag a k (map plain ls) ≡ Some (record { index = k + i; at = (get_or ls i d).wanted.at }))
      × (spend lag a (map plain ls) ≡ map plain (set ls i (spent_one (get_or ls i d))))
  first-fits k [] i d h f b = absurd (omega (arith, h))
  first-fits k (l ∷ ls) zero d h f b = (
    ap (λ (b : Bool). cond b (Some (record { index = k; at = l.wanted.at })) (oldest lag a (k + 1) (map plain ls))) f ∙ ap (λ (x : ℕ). Some (record { index = x; at = l.wanted.at })) (let p : k ≡ k + 0 = omega arith in p),
    ap (λ (b : Bool). cond b (spent_line (plain l) ∷ map plain ls) (plain l ∷ spend lag a (map plain ls))) f,
  )
  first-fits k (l ∷ ls) (suc i) d h f b =
      let past = b 0 (omega arith) in
      let r = first-fits (k + 1) ls i d (omega (arith, h)) f (λ j g. b (suc j) (omega (arith, g))) in (
        ap (λ (b : Bool). cond b (Some (record { index = k; at = l.wanted.at })) (oldest lag a (k + 1) (map plain ls))) past ∙ r.0 ∙ ap (λ (x : ℕ). Some (record { index = x; at = (get_or ls i d).wanted.at })) (let p : (k + 1) + i ≡ k + suc i = omega arith in p),
        ap (λ (b : Bool). cond b (spent_line (plain l) ∷ map plain ls) (plain l ∷ spend lag a (map plain ls))) past ∙ ap (λ (ns : List Noted). plain l ∷ ns) r.1,
      )

  pub first : (ls : List Line) (i : ℕ) (d : Line) → position fit ls ≡ Some i
      → (oldest lag a 0 (map plain ls) ≡ Some (record { index = i; at = (get_or ls i d).wanted.at }))
      × (spend lag a (map plain ls) ≡ map plain (set ls i (spent_one (get_or ls i d))))
  first ls i d e = let p = position-Some fit ls i d e in
      let r = first-fits 0 ls i d p.0 p.1 p.2 in
      (r.0 ∙ ap (λ (x : ℕ). Some (record { index = x; at = (get_or ls i d).wanted.at })) (let q : 0 + i ≡ i = omega arith in q), r.1)
