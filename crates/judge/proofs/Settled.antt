-- Of hearings in order whose deeds are accounted for, the judge never says that a deed was not asked. Assumes nothing.
use Rattle.std.proofs.Common.{◌≡◌, ℕ, ◌<◌, Bool, true, false, ◌||◌, eqb, ◌⊎◌, List, [], ◌∷◌, ◌++◌, map, length, Some, None, Option, sym, refl, ap, ◌∙◌, subst, inl, inr, append_assoc, arith, eqb-true}
use Rattle.judge_rules.specs.Judge.{Found, Noted, View, is_key_in, is_taken, judged, oldest, robbed, said, unasked, verdict, with_key}
use Rattle.judge_rules.specs.declared.record.Verdict.TheVariants.{NotAsked}
use Rattle.judge.specs.Hearing.{Begins, FirstNamed, Hearing, Knows, Orderly, Settled, claim, deed, heard_deeds, heard_lines, joins, line, line_in, nothing, sat, theft, thefts, verdicts}
use Rattle.judge.proofs.Standing.{Standing, begins, finds, notes, passes}
use Rattle.judge.proofs.Exchange.{judges}
use Rattle.judge.proofs.Order.{earlier, in_time, later-deed, later-line, line_at}
use Rattle.parts.specs.declared.word.Key.{Key}
use Rattle.rows.specs.Name.{Naming, own_of}
use Rattle.rows.specs.Setting.{Setting, rules_of}
use Rattle.rows.specs.Row.{Accounted, Deed, SafeDeed, Wanted}
use Rattle.rows.proofs.Names.{same_refl}
use Rattle.tickets.specs.State.{any_in, is_in, relies}
use Rattle.tickets.specs.Term.{Own}
use Rattle.tickets.proofs.Bools.{Unsafe, clash, either, or_cases, or_left, or_right}
use Rattle.std.specs.Str.{bytes_eq}
use mathlib.Core.List.Memᴰ
use mathlib.Core.List.{Memᴰ}

-- a name that stands among the names of those robbed is the name of one of them
pub robbed-one : (f : ℕ → ℕ) (a : ℕ) (ms : List ℕ) → is_in a (map f ms) ≡ true → (m : ℕ) × Memᴰ m ms × (f m ≡ a)
unfolding is_in
robbed-one f a [] h = absurd (clash {b = false} h refl)
robbed-one f a (m ∷ ms) h = go (or_cases (eqb (f m) a) (is_in a (map f ms)) h) (robbed-one f a ms)
  where
    go : (eqb (f m) a ≡ true) ⊎ (is_in a (map f ms) ≡ true) → (is_in a (map f ms) ≡ true → (k : ℕ) × Memᴰ k ms × (f k ≡ a)) → (k : ℕ) × Memᴰ k (m ∷ ms) × (f k ≡ a)
    go (inl e) rest = (m, Memᴰ.head refl, eqb-true _ _ e)
    go (inr e) rest = let r = rest e in (r.0, Memᴰ.tail r.1, r.2)

-- a key among those stolen stays so, and the newest is among them
pub key-stays : (k x : Key) (ks : List Key) → is_key_in k ks ≡ true → is_key_in k (ks ++ (x ∷ [])) ≡ true
key-stays k x [] h = absurd (clash {b = false} h refl)
key-stays k x (y ∷ ks) h = go (or_cases (bytes_eq y.0 k.0) (is_key_in k ks) h) (key-stays k x ks)
  where
    go : (bytes_eq y.0 k.0 ≡ true) ⊎ (is_key_in k ks ≡ true) → (is_key_in k ks ≡ true → is_key_in k (ks ++ (x ∷ [])) ≡ true) → (bytes_eq y.0 k.0 || is_key_in k (ks ++ (x ∷ []))) ≡ true
    go (inl e) rest = or_left _ _ e
    go (inr e) rest = or_right (bytes_eq y.0 k.0) _ (rest e)

pub key-new : (k x : Key) (ks : List Key) → x.0 ≡ k.0 → is_key_in k (ks ++ (x ∷ [])) ≡ true
key-new k x [] e = or_left _ _ (subst (λ (z : List ℕ). bytes_eq x.0 z ≡ true) e (same_refl x.0))
key-new k x (y ∷ ks) e = or_right (bytes_eq y.0 k.0) _ (key-new k x ks e)

module _ (c : Setting) (n : Naming c.own) (v : View) (r : Begins c n v) where
  -- the lag stays
  pub lag_is : (xs : List Hearing) → (sat v xs).lag ≡ c.lag
  lag_is [] = r.lag
  lag_is (nothing ∷ xs) = lag_is xs
  lag_is (line w ∷ xs) = lag_is xs
  lag_is (deed d ∷ xs) = lag_is xs
  lag_is (theft m ∷ xs) = lag_is xs
  lag_is (joins p ∷ xs) = lag_is xs

  -- the judge has the keys of all who were robbed
  pub has_key : (xs : List Hearing) → Orderly c n v xs → (m : ℕ) → Memᴰ m (thefts xs) → (k : Key) → (own_of c.own m).0 ≡ k.0 → is_key_in k (sat v xs).stolen ≡ true
  has_key [] o m h k e = absurd (Memᴰ.not-nil h)
  has_key (nothing ∷ xs) o m h k e = has_key xs o.1 m h k e
  has_key (line w ∷ xs) o m h k e = has_key xs o.1 m h k e
  has_key (deed d ∷ xs) o m h k e = has_key xs o.1 m h k e
  has_key (theft y ∷ xs) o m h k e =
      subst (λ (z : Option Key). is_key_in k (with_key z (sat v xs).stolen) ≡ true) (sym o.0.knows)
      (go (Memᴰ.cases_cons h) (λ i. has_key xs o.1 m i k e))
    where
      go : (m ≡ y) ⊎ Memᴰ m (thefts xs) → (Memᴰ m (thefts xs) → is_key_in k (sat v xs).stolen ≡ true) → is_key_in k ((sat v xs).stolen ++ (own_of c.own y ∷ [])) ≡ true
      go (inl i) rest = key-new k (own_of c.own y) (sat v xs).stolen (ap (λ (z : ℕ). (own_of c.own z).0) (sym i) ∙ e)
      go (inr i) rest = key-stays k (own_of c.own y) (sat v xs).stolen (rest i)
  has_key (joins p ∷ xs) o m h k e = has_key xs o.1 m h k e

  pub theft-there : (xs : List Hearing) → Orderly c n v xs → (m : ℕ) → Memᴰ m (thefts xs) → m < length c.own
  theft-there [] o m h = absurd (Memᴰ.not-nil h)
  theft-there (nothing ∷ xs) o m h = theft-there xs o.1 m h
  theft-there (line w ∷ xs) o m h = theft-there xs o.1 m h
  theft-there (deed d ∷ xs) o m h = theft-there xs o.1 m h
  theft-there (theft y ∷ xs) o m h = go (Memᴰ.cases_cons h) (theft-there xs o.1 m)
    where
      go : (m ≡ y) ⊎ Memᴰ m (thefts xs) → (Memᴰ m (thefts xs) → m < length c.own) → m < length c.own
      go (inl i) rest = subst (λ (z : ℕ). z < length c.own) (sym i) o.0.there
      go (inr i) rest = rest i
  theft-there (joins p ∷ xs) o m h = theft-there xs o.1 m h

  -- two numbers with one name have one key: whoever has the name of one that was robbed counts as robbed
  pub counts-robbed : (xs : List Hearing) → Orderly c n v xs → (m y : ℕ) → Memᴰ m (thefts xs) → y < length c.own → Knows c n (sat v xs) y → n.key_of m ≡ n.key_of y → robbed (sat v xs) y ≡ true
  counts-robbed xs o m y h there knows e =
      let same : (own_of c.own m).0 ≡ (own_of c.own y).0 = n.apart _ _ (n.of_own m (theft-there xs o m h) ∙ ap (λ (z : ℕ). Own z) e ∙ sym (n.of_own y there)) in
      subst (λ (z : Option Key). is_taken z (sat v xs).stolen ≡ true) (sym knows) (has_key xs o m h (own_of c.own y) same)

  pub house-there : (xs : List Hearing) → Orderly c n v xs → 0 < length c.own
  house-there [] o = o
  house-there (x ∷ xs) o = house-there xs o.1

  -- a deed of which the judge says that none of the three was robbed is safe
  pub safe-if : (f : FirstNamed c n) (d : Deed) (xs : List Hearing) → Orderly c n v (deed d ∷ xs)
      → robbed (sat v xs) d.reader ≡ false → robbed (sat v xs) d.service ≡ false → robbed (sat v xs) 0 ≡ false → SafeDeed c n d
  safe-if f d xs o a b e = go (either (any_in (relies (rules_of c n) d.reader d.service) d.stolen))
    where
      among : (x : ℕ) → is_in x d.stolen ≡ true → (m : ℕ) × Memᴰ m (thefts xs) × (n.key_of m ≡ x)
      among x h = robbed-one n.key_of x (thefts xs) (subst (λ (z : List ℕ). is_in x z ≡ true) o.0.stolen h)

      by_reader : is_in d.reader d.stolen ≡ true → ⊥
      by_reader h =
          let m = among d.reader h in
          let there = theft-there xs o.1 m.0 m.1 in
          let known : d.reader < length c.own = subst (λ (z : ℕ). z < length c.own) m.2 (f.there m.0 there) in
          clash (counts-robbed xs o.1 m.0 d.reader m.1 known (o.0.knows.of_reader known)
          (sym (f.same m.0 there) ∙ ap n.key_of m.2)) a

      by_service : is_in (n.key_of d.service) d.stolen ≡ true → ⊥
      by_service h = let m = among (n.key_of d.service) h in clash (counts-robbed xs o.1 m.0 d.service m.1 o.0.there o.0.knows.of_service m.2) b

      by-house : is_in (n.key_of 0) d.stolen ≡ true → ⊥
      by-house h = let m = among (n.key_of 0) h in clash (counts-robbed xs o.1 m.0 0 m.1 (house-there xs o.1) o.0.knows.of_house m.2) e

      last : (is_in (n.key_of 0) d.stolen ≡ true) ⊎ (false ≡ true) → ⊥
      last (inl h) = by-house h
      last (inr h) = clash {b = false} h refl

      two : (is_in (n.key_of d.service) d.stolen ≡ true) ⊎ ((is_in (n.key_of 0) d.stolen || false) ≡ true) → ⊥
      two (inl h) = by_service h
      two (inr h) = last (or_cases (is_in (n.key_of 0) d.stolen) false h)

      three : (is_in d.reader d.stolen ≡ true) ⊎ ((is_in (n.key_of d.service) d.stolen || (is_in (n.key_of 0) d.stolen || false)) ≡ true) → ⊥
      three (inl h) = by_reader h
      three (inr h) = two (or_cases (is_in (n.key_of d.service) d.stolen) _ h)

      go : Unsafe (rules_of c n) d.stolen d.reader d.service ⊎ SafeDeed c n d → SafeDeed c n d
      go (inl h) = absurd (three (or_cases (is_in d.reader d.stolen) _ h))
      go (inr h) = h

  -- he says that it was not asked only if he finds no line and none of the three was robbed
  pub no_line : (w : View) (d : Deed) → verdict w (claim d) ≡ NotAsked
      → (oldest w.lag (claim d) 0 w.lines ≡ None) × (robbed w d.reader ≡ false) × (robbed w d.service ≡ false) × (robbed w 0 ≡ false)
  no_line w d e = go (oldest w.lag (claim d) 0 w.lines) refl (robbed w d.reader) (robbed w d.service) (robbed w 0) refl refl refl e
    where
      go : (o : Option Found) → oldest w.lag (claim d) 0 w.lines ≡ o → (a b h : Bool) → robbed w d.reader ≡ a → robbed w d.service ≡ b → robbed w 0 ≡ h → said o (unasked a b h) ≡ NotAsked
          → (oldest w.lag (claim d) 0 w.lines ≡ None) × (robbed w d.reader ≡ false) × (robbed w d.service ≡ false) × (robbed w 0 ≡ false)
      go (Some x) i a b h p q s z = absurd (let y : ◌≡◌ {A = ℕ} 0 1 = cc in omega arith)
      go None i true b h p q s z = absurd (let y : ◌≡◌ {A = ℕ} 0 1 = cc in omega arith)
      go None i false true h p q s z = absurd (let y : ◌≡◌ {A = ℕ} 0 1 = cc in omega arith)
      go None i false false true p q s z = absurd (let y : ◌≡◌ {A = ℕ} 0 1 = cc in omega arith)
      go None i false false false p q s z = (i, p, q, s)

  module _ (all : List Hearing) (order : Orderly c n v all) (a : Accounted c n (heard_lines all) (heard_deeds all)) where
    -- how the judge stands after each part of the hearings
    stands : (ys xs : List Hearing) → all ≡ ys ++ xs → Standing c n (heard_lines all) (heard_deeds all) (length xs) (sat v xs).lines
    stands ys [] e = subst (λ (z : List Noted). Standing c n (heard_lines all) (heard_deeds all) 0 z) (sym r.no_lines) (begins c n (heard_lines all) (heard_deeds all) a)
    stands ys (x ∷ xs) e = step x e (stands (ys ++ (x ∷ [])) xs (e ∙ sym (append_assoc ys (x ∷ []) xs)))
      where
        at : (x : Hearing) → all ≡ ys ++ (x ∷ xs) → (w : Wanted) → Memᴰ w (heard_lines all) → w.place ≡ length xs → Memᴰ w (line_in x)
        at x e w h p = line_at c n v ys x xs (subst (λ z. Orderly c n v z) e order) w (subst (λ (z : List Hearing). Memᴰ w (heard_lines z)) e h) p

        step : (x : Hearing) → all ≡ ys ++ (x ∷ xs) → Standing c n (heard_lines all) (heard_deeds all) (length xs) (sat v xs).lines → Standing c n (heard_lines all) (heard_deeds all) (length (x ∷ xs)) (sat v (x ∷ xs)).lines
        step nothing e s = passes c n _ _ (length xs) _ s (λ w h p. Memᴰ.not-nil (at nothing e w h p))
        step (line w) e s =
            notes c n _ _ (in_time c n v all order) (length xs) _ s w
            (subst (λ (z : List Hearing). Memᴰ w (heard_lines z)) (sym e) (later-line ys (line w ∷ xs) w (Memᴰ.head refl)))
            (earlier c n v ys (line w ∷ xs) (subst (λ z. Orderly c n v z) e order)).0.place
        step (deed d) e s =
            subst (λ (z : ℕ). Standing c n (heard_lines all) (heard_deeds all) (length (deed d ∷ xs)) (judged (record { lag = z; own = (sat v xs).own; lines = (sat v xs).lines; stolen = (sat v xs).stolen }) (claim d)).lines) (sym (lag_is xs))
            (judges c n _ _ (in_time c n v all order) (length xs) _ s d
            (subst (λ (z : List Hearing). Memᴰ d (heard_deeds z)) (sym e) (later-deed ys (deed d ∷ xs) d (Memᴰ.head refl)))
            (earlier c n v ys (deed d ∷ xs) (subst (λ z. Orderly c n v z) e order)).0.place
            (λ w h p. Memᴰ.not-nil (at (deed d) e w h p)))
        step (theft m) e s = passes c n _ _ (length xs) _ s (λ w h p. Memᴰ.not-nil (at (theft m) e w h p))
        step (joins q) e s = passes c n _ _ (length xs) _ s (λ w h p. Memᴰ.not-nil (at (joins q) e w h p))

    -- of none of the deeds he says that it was not asked
    never : (f : FirstNamed c n) (ys xs : List Hearing) → all ≡ ys ++ xs → Memᴰ NotAsked (verdicts v xs) → ⊥
    never f ys [] e h = Memᴰ.not-nil h
    never f ys (nothing ∷ xs) e h = never f (ys ++ (nothing ∷ [])) xs (e ∙ sym (append_assoc ys (nothing ∷ []) xs)) h
    never f ys (line w ∷ xs) e h = never f (ys ++ (line w ∷ [])) xs (e ∙ sym (append_assoc ys (line w ∷ []) xs)) h
    never f ys (deed d ∷ xs) e h = go (Memᴰ.cases_cons h) (never f (ys ++ (deed d ∷ [])) xs (e ∙ sym (append_assoc ys (deed d ∷ []) xs)))
      where
        here : NotAsked ≡ verdict (sat v xs) (claim d) → ⊥
        here i =
            let o : Orderly c n v (deed d ∷ xs) = earlier c n v ys (deed d ∷ xs) (subst (λ z. Orderly c n v z) e order) in
            let q = no_line (sat v xs) d (sym i) in
            finds c n _ _ (length xs) (sat v xs).lines (stands (ys ++ (deed d ∷ [])) xs (e ∙ sym (append_assoc ys (deed d ∷ []) xs))) d
            (subst (λ (z : List Hearing). Memᴰ d (heard_deeds z)) (sym e) (later-deed ys (deed d ∷ xs) d (Memᴰ.head refl))) o.0.place
            (safe-if f d xs o q.1 q.2 q.3)
            (subst (λ (z : ℕ). oldest z (claim d) 0 (sat v xs).lines ≡ None) (lag_is xs) q.0)

        go : (NotAsked ≡ verdict (sat v xs) (claim d)) ⊎ Memᴰ NotAsked (verdicts v xs) → (Memᴰ NotAsked (verdicts v xs) → ⊥) → ⊥
        go (inl i) rest = here i
        go (inr k) rest = rest k
    never f ys (theft m ∷ xs) e h = never f (ys ++ (theft m ∷ [])) xs (e ∙ sym (append_assoc ys (theft m ∷ []) xs)) h
    never f ys (joins p ∷ xs) e h = never f (ys ++ (joins p ∷ [])) xs (e ∙ sym (append_assoc ys (joins p ∷ []) xs)) h

pub settled : (c : Setting) (n : Naming c.own) → Settled c n
settled c n f v r xs o a h = never c n v r xs o a f [] xs refl h
