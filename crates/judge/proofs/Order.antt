-- Hearings in order: how their lines and deeds stand in time. Assumes nothing.
use Rattle.std.proofs.Common.{◌≡◌, ℕ, ◌<◌, ◌≤◌, ◌⊎◌, List, [], ◌∷◌, ◌++◌, map, length, sym, ap, ◌∙◌, subst, inl, inr, arith}
use Rattle.judge_rules.specs.Judge.{View}
use Rattle.judge.specs.Hearing.{Hearing, Orderly, deed, heard_deeds, heard_lines, line, line_in, joins, nothing, theft, thefts}
use Rattle.judge.proofs.Standing.{InTime}
use Rattle.rows.specs.Name.{Naming}
use Rattle.rows.specs.Setting.{Setting}
use Rattle.rows.specs.Row.{Deed, Wanted}
use Rattle.tickets.proofs.Bools.{Sub, sub_more, sub_refl}
use Rattle.std.proofs.lemmas.List.{length-append}
use mathlib.Core.List.Memᴰ
use mathlib.Core.List.{Memᴰ}

-- what was heard before stands among all that is heard
pub later-line : (ys xs : List Hearing) (w : Wanted) → Memᴰ w (heard_lines xs) → Memᴰ w (heard_lines (ys ++ xs))
later-line [] xs w h = h
later-line (y ∷ ys) xs w h = Memᴰ.append_right (line_in y) (later-line ys xs w h)

pub later-deed : (ys xs : List Hearing) (d : Deed) → Memᴰ d (heard_deeds xs) → Memᴰ d (heard_deeds (ys ++ xs))
later-deed [] xs d h = h
later-deed (y ∷ ys) xs d h = Memᴰ.append_right _ (later-deed ys xs d h)

module _ (c : Setting) (n : Naming c.own) (v : View) where
  pub earlier : (ys xs : List Hearing) → Orderly c n v (ys ++ xs) → Orderly c n v xs
  earlier [] xs o = o
  earlier (y ∷ ys) xs o = earlier ys xs o.1

  -- each stands at a place below their number
  pub line_low : (xs : List Hearing) → Orderly c n v xs → (w : Wanted) → Memᴰ w (heard_lines xs) → w.place < length xs
  line_low [] o w h = absurd (Memᴰ.not-nil h)
  line_low (nothing ∷ xs) o w h = let l = line_low xs o.1 w h in omega arith
  line_low (line y ∷ xs) o w h = go (Memᴰ.cases_cons h) (line_low xs o.1 w)
    where
      go : (w ≡ y) ⊎ Memᴰ w (heard_lines xs) → (Memᴰ w (heard_lines xs) → w.place < length xs) → w.place < length (line y ∷ xs)
      go (inl e) rest = let p = o.0.place in let i = ap (λ (u : Wanted). u.place) e in omega arith
      go (inr k) rest = let l = rest k in omega arith
  line_low (deed d ∷ xs) o w h = let l = line_low xs o.1 w h in omega arith
  line_low (theft m ∷ xs) o w h = let l = line_low xs o.1 w h in omega arith
  line_low (joins p ∷ xs) o w h = let l = line_low xs o.1 w h in omega arith

  pub deed-low : (xs : List Hearing) → Orderly c n v xs → (d : Deed) → Memᴰ d (heard_deeds xs) → d.place < length xs
  deed-low [] o d h = absurd (Memᴰ.not-nil h)
  deed-low (nothing ∷ xs) o d h = let l = deed-low xs o.1 d h in omega arith
  deed-low (line y ∷ xs) o d h = let l = deed-low xs o.1 d h in omega arith
  deed-low (deed y ∷ xs) o d h = go (Memᴰ.cases_cons h) (deed-low xs o.1 d)
    where
      go : (d ≡ y) ⊎ Memᴰ d (heard_deeds xs) → (Memᴰ d (heard_deeds xs) → d.place < length xs) → d.place < length (deed y ∷ xs)
      go (inl e) rest = let p = o.0.place in let i = ap (λ (u : Deed). u.place) e in omega arith
      go (inr k) rest = let l = rest k in omega arith
  deed-low (theft m ∷ xs) o d h = let l = deed-low xs o.1 d h in omega arith
  deed-low (joins p ∷ xs) o d h = let l = deed-low xs o.1 d h in omega arith

  -- a place tells the line
  single : (xs : List Hearing) → Orderly c n v xs → (w u : Wanted) → Memᴰ w (heard_lines xs) → Memᴰ u (heard_lines xs) → w.place ≡ u.place → w ≡ u
  single [] o w u h k e = absurd (Memᴰ.not-nil h)
  single (nothing ∷ xs) o w u h k e = single xs o.1 w u h k e
  single (line y ∷ xs) o w u h k e = go (Memᴰ.cases_cons h) (Memᴰ.cases_cons k) (λ i j. single xs o.1 w u i j e)
    where
      go : (w ≡ y) ⊎ Memᴰ w (heard_lines xs) → (u ≡ y) ⊎ Memᴰ u (heard_lines xs) → (Memᴰ w (heard_lines xs) → Memᴰ u (heard_lines xs) → w ≡ u) → w ≡ u
      go (inl i) (inl j) rest = i ∙ sym j
      go (inl i) (inr j) rest = absurd (let p = o.0.place in let q = ap (λ (z : Wanted). z.place) i in let l = line_low xs o.1 u j in omega arith)
      go (inr i) (inl j) rest = absurd (let p = o.0.place in let q = ap (λ (z : Wanted). z.place) j in let l = line_low xs o.1 w i in omega arith)
      go (inr i) (inr j) rest = rest i j
  single (deed d ∷ xs) o w u h k e = single xs o.1 w u h k e
  single (theft m ∷ xs) o w u h k e = single xs o.1 w u h k e
  single (joins p ∷ xs) o w u h k e = single xs o.1 w u h k e

  lines_on : (xs : List Hearing) → Orderly c n v xs → (w u : Wanted) → Memᴰ w (heard_lines xs) → Memᴰ u (heard_lines xs) → w.place < u.place → w.reader ≡ u.reader → w.at ≤ u.at
  lines_on [] o w u h k e r = absurd (Memᴰ.not-nil h)
  lines_on (nothing ∷ xs) o w u h k e r = lines_on xs o.1 w u h k e r
  lines_on (line y ∷ xs) o w u h k e r = go (Memᴰ.cases_cons h) (Memᴰ.cases_cons k) (λ i j. lines_on xs o.1 w u i j e r)
    where
      go : (w ≡ y) ⊎ Memᴰ w (heard_lines xs) → (u ≡ y) ⊎ Memᴰ u (heard_lines xs) → (Memᴰ w (heard_lines xs) → Memᴰ u (heard_lines xs) → w.at ≤ u.at) → w.at ≤ u.at
      go (inl i) (inl j) rest = absurd (let p = ap (λ (z : Wanted). z.place) i in let q = ap (λ (z : Wanted). z.place) j in omega arith)
      go (inl i) (inr j) rest = absurd (let p = o.0.place in let q = ap (λ (z : Wanted). z.place) i in let l = line_low xs o.1 u j in omega arith)
      go (inr i) (inl j) rest = let p = o.0.time w i (r ∙ ap (λ (z : Wanted). z.reader) j) in let q = ap (λ (z : Wanted). z.at) j in omega arith
      go (inr i) (inr j) rest = rest i j
  lines_on (deed d ∷ xs) o w u h k e r = lines_on xs o.1 w u h k e r
  lines_on (theft m ∷ xs) o w u h k e r = lines_on xs o.1 w u h k e r
  lines_on (joins p ∷ xs) o w u h k e r = lines_on xs o.1 w u h k e r

  deeds_on : (xs : List Hearing) → Orderly c n v xs → (d e : Deed) → Memᴰ d (heard_deeds xs) → Memᴰ e (heard_deeds xs) → d.place < e.place → d.service ≡ e.service → d.at ≤ e.at
  deeds_on [] o d e h k l r = absurd (Memᴰ.not-nil h)
  deeds_on (nothing ∷ xs) o d e h k l r = deeds_on xs o.1 d e h k l r
  deeds_on (line y ∷ xs) o d e h k l r = deeds_on xs o.1 d e h k l r
  deeds_on (deed y ∷ xs) o d e h k l r = go (Memᴰ.cases_cons h) (Memᴰ.cases_cons k) (λ i j. deeds_on xs o.1 d e i j l r)
    where
      go : (d ≡ y) ⊎ Memᴰ d (heard_deeds xs) → (e ≡ y) ⊎ Memᴰ e (heard_deeds xs) → (Memᴰ d (heard_deeds xs) → Memᴰ e (heard_deeds xs) → d.at ≤ e.at) → d.at ≤ e.at
      go (inl i) (inl j) rest = absurd (let p = ap (λ (z : Deed). z.place) i in let q = ap (λ (z : Deed). z.place) j in omega arith)
      go (inl i) (inr j) rest = absurd (let p = o.0.place in let q = ap (λ (z : Deed). z.place) i in let s = deed-low xs o.1 e j in omega arith)
      go (inr i) (inl j) rest = let p = o.0.time d i (r ∙ ap (λ (z : Deed). z.service) j) in let q = ap (λ (z : Deed). z.at) j in omega arith
      go (inr i) (inr j) rest = rest i j
  deeds_on (theft m ∷ xs) o d e h k l r = deeds_on xs o.1 d e h k l r
  deeds_on (joins p ∷ xs) o d e h k l r = deeds_on xs o.1 d e h k l r

  -- a deed carries no theft that was not heard before it
  thefts-heard : (xs : List Hearing) → Orderly c n v xs → (d : Deed) → Memᴰ d (heard_deeds xs) → Sub d.stolen (map n.key_of (thefts xs))
  thefts-heard [] o d h = absurd (Memᴰ.not-nil h)
  thefts-heard (nothing ∷ xs) o d h = thefts-heard xs o.1 d h
  thefts-heard (line y ∷ xs) o d h = thefts-heard xs o.1 d h
  thefts-heard (deed y ∷ xs) o d h = go (Memᴰ.cases_cons h) (thefts-heard xs o.1 d)
    where
      go : (d ≡ y) ⊎ Memᴰ d (heard_deeds xs) → (Memᴰ d (heard_deeds xs) → Sub d.stolen (map n.key_of (thefts xs))) → Sub d.stolen (map n.key_of (thefts xs))
      go (inl i) rest = subst (λ (z : List ℕ). Sub z (map n.key_of (thefts xs))) (sym (ap (λ (z : Deed). z.stolen) i ∙ o.0.stolen)) (sub_refl _)
      go (inr k) rest = rest k
  thefts-heard (theft m ∷ xs) o d h = λ a i. sub_more (n.key_of m) (map n.key_of (thefts xs)) a (thefts-heard xs o.1 d h a i)
  thefts-heard (joins p ∷ xs) o d h = thefts-heard xs o.1 d h

  thefts_stay : (xs : List Hearing) → Orderly c n v xs → (d e : Deed) → Memᴰ d (heard_deeds xs) → Memᴰ e (heard_deeds xs) → d.place < e.place → Sub d.stolen e.stolen
  thefts_stay [] o d e h k l = absurd (Memᴰ.not-nil h)
  thefts_stay (nothing ∷ xs) o d e h k l = thefts_stay xs o.1 d e h k l
  thefts_stay (line y ∷ xs) o d e h k l = thefts_stay xs o.1 d e h k l
  thefts_stay (deed y ∷ xs) o d e h k l = go (Memᴰ.cases_cons h) (Memᴰ.cases_cons k) (λ i j. thefts_stay xs o.1 d e i j l)
    where
      go : (d ≡ y) ⊎ Memᴰ d (heard_deeds xs) → (e ≡ y) ⊎ Memᴰ e (heard_deeds xs) → (Memᴰ d (heard_deeds xs) → Memᴰ e (heard_deeds xs) → Sub d.stolen e.stolen) → Sub d.stolen e.stolen
      go (inl i) (inl j) rest = absurd (let p = ap (λ (z : Deed). z.place) i in let q = ap (λ (z : Deed). z.place) j in omega arith)
      go (inl i) (inr j) rest = absurd (let p = o.0.place in let q = ap (λ (z : Deed). z.place) i in let s = deed-low xs o.1 e j in omega arith)
      go (inr i) (inl j) rest = subst (λ (z : List ℕ). Sub d.stolen z) (sym (ap (λ (z : Deed). z.stolen) j ∙ o.0.stolen)) (thefts-heard xs o.1 d i)
      go (inr i) (inr j) rest = rest i j
  thefts_stay (theft m ∷ xs) o d e h k l = thefts_stay xs o.1 d e h k l
  thefts_stay (joins p ∷ xs) o d e h k l = thefts_stay xs o.1 d e h k l

  pub in_time : (xs : List Hearing) → Orderly c n v xs → InTime c n (heard_lines xs) (heard_deeds xs)
  in_time xs o = record { single = single xs o; lines_on = lines_on xs o; deeds_on = deeds_on xs o; thefts_stay = thefts_stay xs o }

  -- the line at a place is the one heard there
  pub line_at : (ys : List Hearing) (x : Hearing) (xs : List Hearing) → Orderly c n v (ys ++ (x ∷ xs)) → (w : Wanted) → Memᴰ w (heard_lines (ys ++ (x ∷ xs))) → w.place ≡ length xs → Memᴰ w (line_in x)
  line_at [] x xs o w h e = go (Memᴰ.append_cases (line_in x) h)
    where
      go : Memᴰ w (line_in x) ⊎ Memᴰ w (heard_lines xs) → Memᴰ w (line_in x)
      go (inl k) = k
      go (inr k) = absurd (let l = line_low xs o.1 w k in omega arith)
  line_at (nothing ∷ ys) x xs o w h e = line_at ys x xs o.1 w h e
  line_at (line y ∷ ys) x xs o w h e = go (Memᴰ.cases_cons h) (λ k. line_at ys x xs o.1 w k e)
    where
      go : (w ≡ y) ⊎ Memᴰ w (heard_lines (ys ++ (x ∷ xs))) → (Memᴰ w (heard_lines (ys ++ (x ∷ xs))) → Memᴰ w (line_in x)) → Memᴰ w (line_in x)
      go (inl i) rest = absurd (let p = o.0.place in let q = ap (λ (z : Wanted). z.place) i in let l = length-append ys (x ∷ xs) in omega arith)
      go (inr k) rest = rest k
  line_at (deed d ∷ ys) x xs o w h e = line_at ys x xs o.1 w h e
  line_at (theft m ∷ ys) x xs o w h e = line_at ys x xs o.1 w h e
  line_at (joins p ∷ ys) x xs o w h e = line_at ys x xs o.1 w h e
