-- What a verdict means. Assumes nothing.
use Rattle.std.proofs.Common.{◌≡◌, ℕ, ◌+◌, ◌<◌, ◌≤◌, Bool, true, false, cond, ◌||◌, ◌⊎◌, List, [], ◌∷◌, ◌++◌, map, reverse, length, Some, None, Option, sym, refl, ap, ◌∙◌, subst, inl, inr, arith}
use Rattle.judge_rules.specs.Judge.{Act, Found, Noted, View, fits, is_key_in, is_taken, oldest, robbed, said, spend, unasked, verdict, with_key}
use Rattle.judge_rules.specs.declared.record.Verdict.TheVariants.{Asked, Stolen}
use Rattle.judge.specs.Hearing.{Begins, Hearing, Knows, Orderly, claim, deed, heard_lines, joins, line, nothing, sat, theft, thefts, verdicts}
use Rattle.judge.specs.Meaning.{AskedBy, IsLine, Meaning, Names, RobbedOf}
use Rattle.judge.proofs.Marks.{First, Fit, Mark, NoFit, fit_of, look, mark, none-fits, noted_of, of-fit, spent_mark}
use Rattle.judge.proofs.Order.{line_low}
use Rattle.judge.proofs.Settled.{counts-robbed, house-there, lag_is, no_line, safe-if}
use Rattle.judge.proofs.Spent.{Spent, found-by, names-found, spent-named}
use Rattle.parts.specs.declared.word.Key.{Key}
use Rattle.rows.specs.Name.{Naming, own_of}
use Rattle.rows.specs.Setting.{Setting}
use Rattle.rows.specs.Row.{Deed, For, Wanted}
use Rattle.rows.proofs.Names.{same-eq}
use Rattle.tickets.specs.State.{is_in}
use Rattle.tickets.specs.Term.{Own}
use Rattle.tickets.proofs.Bools.{clash, either, is_in-here, is_in-more, or_cases, or_left, or_right}
use Rattle.judge.proofs.Settled.{robbed-one}
use Rattle.std.proofs.lemmas.List.{length-map, map-append}
use Rattle.std.specs.Str.{bytes_eq}
use mathlib.Core.List.Memᴰ
use mathlib.Core.List.{Memᴰ, reverse-cons}

abbrev line_of_mark : Mark → Wanted
line_of_mark m = m.wanted

-- the judge's lines are the row's, the oldest first
record Written (ns : List Noted) (ls : List Wanted) : Type 0 where
  marks : List Mark
  same : ns ≡ map noted_of marks
  lines : map line_of_mark marks ≡ reverse ls

written-spend : (lag : ℕ) (a : Act) (ns : List Noted) (ls : List Wanted) → Written ns ls → Written (spend lag a ns) ls
written-spend lag a ns ls w = go (look lag a w.marks)
  where
    go : First lag a w.marks ⊎ NoFit lag a w.marks → Written (spend lag a ns) ls
    go (inl f) =
        record {
          marks = f.before ++ (spent_mark f.it ∷ f.after);
          same = ap (λ (z : List Noted). spend lag a z) w.same ∙ f.spends;
          lines =
              map-append line_of_mark f.before (spent_mark f.it ∷ f.after) ∙ sym (map-append line_of_mark f.before (f.it ∷ f.after))
              ∙ ap (λ (z : List Mark). map line_of_mark z) (sym f.split) ∙ w.lines;
        }
    go (inr f) = record { marks = w.marks; same = ap (λ (z : List Noted). spend lag a z) w.same ∙ f.keeps; lines = w.lines }

written : (v : View) → v.lines ≡ [] → (xs : List Hearing) → Written (sat v xs).lines (heard_lines xs)
written v z [] = record { marks = []; same = z; lines = refl }
written v z (nothing ∷ xs) = written v z xs
written v z (line x ∷ xs) =
    let w = written v z xs in
    record {
      marks = w.marks ++ (mark x false ∷ []);
      same = ap (λ (y : List Noted). y ++ (noted_of (mark x false) ∷ [])) w.same ∙ sym (map-append noted_of w.marks (mark x false ∷ []));
      lines =
          map-append line_of_mark w.marks (mark x false ∷ []) ∙ ap (λ (y : List Wanted). y ++ (x ∷ [])) w.lines ∙ sym (reverse-cons x (heard_lines xs));
    }
written v z (deed d ∷ xs) = written-spend (sat v xs).lag (claim d) (sat v xs).lines (heard_lines xs) (written v z xs)
written v z (theft m ∷ xs) = written v z xs
written v z (joins p ∷ xs) = written v z xs

-- what is found
record At (lag : ℕ) (a : Act) (k : ℕ) (ms : List Mark) (f : Found) : Type 0 where
  before : List Mark
  it : Mark
  after : List Mark
  split : ms ≡ before ++ (it ∷ after)
  index : f.index ≡ k + length before
  at : f.at ≡ it.wanted.at
  fit : Fit lag a it
  none_before : (m : Mark) → Memᴰ m before → fits lag a (noted_of m) ≡ false

found_at : (lag : ℕ) (a : Act) (k : ℕ) (ms : List Mark) (f : Found) → oldest lag a k (map noted_of ms) ≡ Some f → At lag a k ms f
found_at lag a k [] f e = absurd (let z : ◌≡◌ {A = ℕ} 0 1 = cc in omega arith)
found_at lag a k (m ∷ ms) f e = go (fits lag a (noted_of m)) refl e (found_at lag a (k + 1) ms f)
  where
    go : (b : Bool) → fits lag a (noted_of m) ≡ b → cond b (Some (record { index = k; at = m.wanted.at })) (oldest lag a (k + 1) (map noted_of ms)) ≡ Some f
        → (oldest lag a (k + 1) (map noted_of ms) ≡ Some f → At lag a (k + 1) ms f) → At lag a k (m ∷ ms) f
    go true i j rest =
        let q : ◌≡◌ {A = Found} (record { index = k; at = m.wanted.at }) f = cc in
        let p : k ≡ f.index = ap (λ (z : Found). z.index) q in
        record {
          before = [];
          it = m;
          after = ms;
          split = refl;
          index = omega arith;
          at = ap (λ (z : Found). z.at) (sym q);
          fit = fit_of lag a m i;
          none_before = λ y h. absurd (Memᴰ.not-nil h);
        }
    go false i j rest =
        let r = rest j in
        let p = r.index in
        record {
          before = m ∷ r.before;
          it = r.it;
          after = r.after;
          split = ap (λ (z : List Mark). m ∷ z) r.split;
          index = omega arith;
          at = r.at;
          fit = r.fit;
          none_before = λ y h. not-here y (Memᴰ.cases_cons h) (r.none_before y);
        }
      where
        not-here : (y : Mark) {bs : List Mark} → (y ≡ m) ⊎ Memᴰ y bs → (Memᴰ y bs → fits lag a (noted_of y) ≡ false) → fits lag a (noted_of y) ≡ false
        not-here y (inl e) rest = subst (λ (z : Mark). fits lag a (noted_of z) ≡ false) (sym e) i
        not-here y (inr h) rest = rest h

-- a mark at a place of the lines
record Here (ms : List Mark) (i : ℕ) (w : Wanted) : Type 0 where
  before : List Mark
  it : Mark
  after : List Mark
  split : ms ≡ before ++ (it ∷ after)
  many : length before ≡ i
  is : it.wanted ≡ w

here_of : (ms : List Mark) (bs es : List Wanted) (w : Wanted) → map line_of_mark ms ≡ bs ++ (w ∷ es) → Here ms (length bs) w
here_of [] [] es w e = absurd (let z : ◌≡◌ {A = ℕ} 0 1 = cc in omega arith)
here_of [] (b ∷ bs) es w e = absurd (let z : ◌≡◌ {A = ℕ} 0 1 = cc in omega arith)
here_of (m ∷ ms) [] es w e = let p : m.wanted ≡ w = cc in record { before = []; it = m; after = ms; split = refl; many = refl; is = p }
here_of (m ∷ ms) (b ∷ bs) es w e =
    let p : map line_of_mark ms ≡ bs ++ (w ∷ es) = cc in
    let r = here_of ms bs es w p in
    let q = r.many in
    record { before = m ∷ r.before; it = r.it; after = r.after; split = ap (λ (z : List Mark). m ∷ z) r.split; many = omega arith; is = r.is }

-- a mark that is spent
spent-here : (bs es : List Mark) (m : Mark) → m.spent ≡ true → Spent (length bs) (map noted_of (bs ++ (m ∷ es)))
spent-here [] es m e = e
spent-here (b ∷ bs) es m e = spent-here bs es m e

-- in a list cut in two ways, what stands nearer the front stands in the front of the other cut
in-front : (bs es cs ds : List Mark) (x y : Mark) → bs ++ (x ∷ es) ≡ cs ++ (y ∷ ds) → length bs < length cs → Memᴰ x cs
in-front [] es [] ds x y e h = absurd (omega arith)
in-front [] es (z ∷ cs) ds x y e h = let p : x ≡ z = cc in Memᴰ.head p
in-front (b ∷ bs) es [] ds x y e h = absurd (omega arith)
in-front (b ∷ bs) es (z ∷ cs) ds x y e h = let p : bs ++ (x ∷ es) ≡ cs ++ (y ∷ ds) = cc in Memᴰ.tail (in-front bs es cs ds x y p (omega arith))

in-reverse : (ls bs es : List Wanted) (w : Wanted) → reverse ls ≡ bs ++ (w ∷ es) → Memᴰ w ls
in-reverse ls bs es w e = back ls (subst (λ (z : List Wanted). Memᴰ w z) (sym e) (Memᴰ.append_right bs (Memᴰ.head refl)))
  where
    back : (ls : List Wanted) → Memᴰ w (reverse ls) → Memᴰ w ls
    back [] h = h
    back (l ∷ ls) h = go (Memᴰ.append_cases (reverse ls) (subst (λ (z : List Wanted). Memᴰ w z) (reverse-cons l ls) h)) (back ls)
      where
        go : Memᴰ w (reverse ls) ⊎ Memᴰ w (l ∷ []) → (Memᴰ w (reverse ls) → Memᴰ w ls) → Memᴰ w (l ∷ ls)
        go (inl k) rest = Memᴰ.tail (rest k)
        go (inr k) rest = Memᴰ.head (Memᴰ.eq_of_singleton k)

module _ (c : Setting) (n : Naming c.own) (v : View) (r : Begins c n v) (xs : List Hearing) (d : Deed) (o : Orderly c n v (deed d ∷ xs)) where
  w : Written (sat v xs).lines (heard_lines xs)
  w = written v r.no_lines xs

  -- a line that could account for the deed, and does not fit, was spent by a deed before
  named : (k : ℕ) (u : Wanted) (l : IsLine k u (heard_lines xs)) → For c n d u
      → ((m : Mark) → (bs es : List Mark) → w.marks ≡ bs ++ (m ∷ es) → length bs ≡ length l.before → fits c.lag (claim d) (noted_of m) ≡ false) → Names k (verdicts v xs)
  named k u l f none = go (either h.it.spent)
    where
      h : Here w.marks (length l.before) u
      h = here_of w.marks l.before l.after u (w.lines ∙ l.split)

      by : Names (length l.before + 1) (verdicts v xs) → Names k (verdicts v xs)
      by q = subst (λ (z : ℕ). Names z (verdicts v xs)) (sym l.count) q

      go : (h.it.spent ≡ true) ⊎ (h.it.spent ≡ false) → Names k (verdicts v xs)
      go (inl e) =
          by (spent-named v r.no_lines xs (length l.before)
          (subst (λ (z : List Noted). Spent (length l.before) z) (sym (w.same ∙ ap (λ (y : List Mark). map noted_of y) h.split))
          (subst (λ (z : ℕ). Spent z (map noted_of (h.before ++ (h.it ∷ h.after)))) h.many (spent-here h.before h.after h.it e))))
      go (inr e) =
          let fit : Fit c.lag (claim d) h.it =
          record {
            unspent = e;
            reader = ap (λ (z : Wanted). z.reader) h.is ∙ f.reader;
            service = ap (λ (z : Wanted). z.service) h.is ∙ f.service;
            what = ap (λ (z : Wanted). z.what) h.is ∙ f.what;
            not_later = subst (λ (z : Wanted). z.at ≤ d.at) (sym h.is) f.not_later;
            lately = subst (λ (z : Wanted). d.at ≤ z.at + c.lag) (sym h.is) f.lately;
          } in
          absurd (clash (of-fit c.lag (claim d) h.it fit) (none h.it h.before h.after h.split h.many))

  lag-so : {x : Option Found} → oldest (sat v xs).lag (claim d) 0 (sat v xs).lines ≡ x → oldest c.lag (claim d) 0 (map noted_of w.marks) ≡ x
  lag-so {x} e = subst (λ (z : List Noted). oldest c.lag (claim d) 0 z ≡ x) w.same (subst (λ (z : ℕ). oldest z (claim d) 0 (sat v xs).lines ≡ x) (lag_is c n v r xs) e)

  asked_by : (k t : ℕ) → verdict (sat v xs) (claim d) ≡ Asked k t → AskedBy c n v xs d k t
  asked_by k t e =
      let f = found-by (sat v xs) (claim d) k t e in
      make f (found_at c.lag (claim d) 0 w.marks f.0 (lag-so f.1))
    where
      make : (f : (f : Found) × (oldest (sat v xs).lag (claim d) 0 (sat v xs).lines ≡ Some f) × (k ≡ f.index + 1) × (f.at ≡ t)) → At c.lag (claim d) 0 w.marks f.0 → AskedBy c n v xs d k t
      make f a =
          let split : reverse (heard_lines xs) ≡ map line_of_mark a.before ++ (a.it.wanted ∷ map line_of_mark a.after) =
          sym w.lines ∙ ap (λ (z : List Mark). map line_of_mark z) a.split ∙ map-append line_of_mark a.before (a.it ∷ a.after) in
          let low = line_low c n v xs o.1 a.it.wanted (in-reverse (heard_lines xs) (map line_of_mark a.before) (map line_of_mark a.after) a.it.wanted split) in
          let i = a.index in
          let j = f.2 in
          let m = length-map a.before line_of_mark in
          let place = o.0.place in
          let g = a.fit in
          record {
            line = a.it.wanted;
            counted = record { before = map line_of_mark a.before; after = map line_of_mark a.after; split = split; count = omega arith };
            tick = sym a.at ∙ f.3;
            asked =
                record {
                  reader = g.reader;
                  service = g.service;
                  what = g.what;
                  before = omega arith;
                  not_later = g.not_later;
                  lately = g.lately;
                };
            oldest =
                λ y u l h q. named y u l q
                (λ m bs es s b. a.none_before m (in-front bs es a.before a.after m a.it (sym s ∙ a.split) (let z = l.count in omega arith)));
          }

  -- nothing is found
  not_found : ((k t : ℕ) → verdict (sat v xs) (claim d) ≡ Asked k t → ⊥) → oldest (sat v xs).lag (claim d) 0 (sat v xs).lines ≡ None
  not_found h = go (oldest (sat v xs).lag (claim d) 0 (sat v xs).lines) refl
    where
      go : (x : Option Found) → oldest (sat v xs).lag (claim d) 0 (sat v xs).lines ≡ x → oldest (sat v xs).lag (claim d) 0 (sat v xs).lines ≡ None
      go None e = e
      go (Some f) e = absurd (h (f.index + 1) f.at (names-found (sat v xs) (claim d) f e))

  spent-before : ((k t : ℕ) → verdict (sat v xs) (claim d) ≡ Asked k t → ⊥) → (k : ℕ) (u : Wanted) → IsLine k u (heard_lines xs) → For c n d u → Names k (verdicts v xs)
  spent-before h k u l f =
      named k u l f
      (λ m bs es s b. none-fits c.lag (claim d) 0 w.marks (lag-so (not_found h)) m (subst (λ (z : List Mark). Memᴰ m z) (sym s) (Memᴰ.append_right bs (Memᴰ.head refl))))

-- the keys that the judge has are keys of those robbed
module _ (c : Setting) (n : Naming c.own) (v : View) (r : Begins c n v) where
  whose : (xs : List Hearing) → Orderly c n v xs → (k : Key) → is_key_in k (sat v xs).stolen ≡ true → (m : ℕ) × Memᴰ m (thefts xs) × (m < length c.own) × ((own_of c.own m).0 ≡ k.0)
  whose [] o k h = absurd (clash {b = false} (subst (λ (z : List Key). is_key_in k z ≡ true) r.no_thefts h) refl)
  whose (nothing ∷ xs) o k h = whose xs o.1 k h
  whose (line w ∷ xs) o k h = whose xs o.1 k h
  whose (deed d ∷ xs) o k h = whose xs o.1 k h
  whose (theft y ∷ xs) o k h =
      go (last (sat v xs).stolen (subst (λ (z : Option Key). is_key_in k (with_key z (sat v xs).stolen) ≡ true) o.0.knows h)) (whose xs o.1 k)
    where
      last : (ks : List Key) → is_key_in k (ks ++ (own_of c.own y ∷ [])) ≡ true → (is_key_in k ks ≡ true) ⊎ (bytes_eq (own_of c.own y).0 k.0 ≡ true)
      last [] e = one (or_cases (bytes_eq (own_of c.own y).0 k.0) false e)
        where
          one : (bytes_eq (own_of c.own y).0 k.0 ≡ true) ⊎ (false ≡ true) → (false ≡ true) ⊎ (bytes_eq (own_of c.own y).0 k.0 ≡ true)
          one (inl e) = inr e
          one (inr e) = inl e
      last (x ∷ ks) e = more (or_cases (bytes_eq x.0 k.0) _ e) (last ks)
        where
          rest_of : (is_key_in k ks ≡ true) ⊎ (bytes_eq (own_of c.own y).0 k.0 ≡ true) → ((bytes_eq x.0 k.0 || is_key_in k ks) ≡ true) ⊎ (bytes_eq (own_of c.own y).0 k.0 ≡ true)
          rest_of (inl e) = inl (or_right (bytes_eq x.0 k.0) _ e)
          rest_of (inr e) = inr e

          more : (bytes_eq x.0 k.0 ≡ true) ⊎ (is_key_in k (ks ++ (own_of c.own y ∷ [])) ≡ true) → (is_key_in k (ks ++ (own_of c.own y ∷ [])) ≡ true → (is_key_in k ks ≡ true) ⊎ (bytes_eq (own_of c.own y).0 k.0 ≡ true))
              → ((bytes_eq x.0 k.0 || is_key_in k ks) ≡ true) ⊎ (bytes_eq (own_of c.own y).0 k.0 ≡ true)
          more (inl e) rest = inl (or_left _ _ e)
          more (inr e) rest = rest_of (rest e)

      go : (is_key_in k (sat v xs).stolen ≡ true) ⊎ (bytes_eq (own_of c.own y).0 k.0 ≡ true) → (is_key_in k (sat v xs).stolen ≡ true → (m : ℕ) × Memᴰ m (thefts xs) × (m < length c.own) × ((own_of c.own m).0 ≡ k.0))
          → (m : ℕ) × Memᴰ m (y ∷ thefts xs) × (m < length c.own) × ((own_of c.own m).0 ≡ k.0)
      go (inl e) rest = let q = rest e in (q.0, Memᴰ.tail q.1, q.2, q.3)
      go (inr e) rest = (y, Memᴰ.head refl, o.0.there, same-eq _ _ e)
  whose (joins p ∷ xs) o k h = whose xs o.1 k h

  is-in : (f : ℕ → ℕ) (m : ℕ) (ms : List ℕ) → Memᴰ m ms → is_in (f m) (map f ms) ≡ true
  is-in f m [] h = absurd (Memᴰ.not-nil h)
  is-in f m (x ∷ ms) h = go (Memᴰ.cases_cons h) (is-in f m ms)
    where
      go : (m ≡ x) ⊎ Memᴰ m ms → (Memᴰ m ms → is_in (f m) (map f ms) ≡ true) → is_in (f m) (f x ∷ map f ms) ≡ true
      go (inl e) rest = subst (λ (z : ℕ). is_in (f m) (f z ∷ map f ms) ≡ true) e (is_in-here (f m) (map f ms))
      go (inr k) rest = is_in-more (f x) (f m) (map f ms) (rest k)

  -- the judge's test is the row's
  exact : (xs : List Hearing) → Orderly c n v xs → (y : ℕ) → y < length c.own → Knows c n (sat v xs) y → robbed (sat v xs) y ≡ is_in (n.key_of y) (map n.key_of (thefts xs))
  exact xs o y there knows = go (either (robbed (sat v xs) y)) (either (is_in (n.key_of y) (map n.key_of (thefts xs))))
    where
      to : robbed (sat v xs) y ≡ true → is_in (n.key_of y) (map n.key_of (thefts xs)) ≡ true
      to e =
          let m = whose xs o (own_of c.own y) (subst (λ (z : Option Key). is_taken z (sat v xs).stolen ≡ true) knows e) in
          let s : Own (n.key_of m.0) ≡ Own (n.key_of y) = sym (n.of_own m.0 m.2) ∙ ap n.name m.3 ∙ n.of_own y there in
          let q : n.key_of m.0 ≡ n.key_of y = cc in
          subst (λ (z : ℕ). is_in z (map n.key_of (thefts xs)) ≡ true) q (is-in n.key_of m.0 (thefts xs) m.1)

      from : is_in (n.key_of y) (map n.key_of (thefts xs)) ≡ true → robbed (sat v xs) y ≡ true
      from e = let m = robbed-one n.key_of (n.key_of y) (thefts xs) e in counts-robbed c n v r xs o m.0 y m.1 there knows m.2

      go : (robbed (sat v xs) y ≡ true) ⊎ (robbed (sat v xs) y ≡ false) → (is_in (n.key_of y) (map n.key_of (thefts xs)) ≡ true) ⊎ (is_in (n.key_of y) (map n.key_of (thefts xs)) ≡ false)
          → robbed (sat v xs) y ≡ is_in (n.key_of y) (map n.key_of (thefts xs))
      go (inl e) q = e ∙ sym (to e)
      go (inr e) (inl q) = absurd (clash (from q) e)
      go (inr e) (inr q) = e ∙ sym q

-- which keys a verdict names
of-stolen : (w : View) (a : Act) (x y z : Bool) → verdict w a ≡ Stolen x y z → (robbed w a.reader ≡ x) × (robbed w a.service ≡ y) × (robbed w 0 ≡ z) × ((x || (y || z)) ≡ true)
of-stolen w a x y z e = go (oldest w.lag a 0 w.lines) (robbed w a.reader) (robbed w a.service) (robbed w 0) e
  where
    go : (o : Option Found) → (p q s : Bool) → said o (unasked p q s) ≡ Stolen x y z → (p ≡ x) × (q ≡ y) × (s ≡ z) × ((x || (y || z)) ≡ true)
    go (Some f) p q s i = absurd (let u : ◌≡◌ {A = ℕ} 0 1 = cc in omega arith)
    go None true q s i = let j : true ≡ x = cc in (j, (cc), (cc), subst (λ (u : Bool). (u || (y || z)) ≡ true) j refl)
    go None false true s i = let j : false ≡ x = cc in let k : true ≡ y = cc in (j, k, (cc), subst (λ (u : Bool). (u || (y || z)) ≡ true) j (subst (λ (u : Bool). (u || z) ≡ true) k refl))
    go None false false true i = let j : false ≡ x = cc in let k : false ≡ y = cc in let l : true ≡ z = cc in (j, k, l, subst (λ (u : Bool). (u || (y || z)) ≡ true) j (subst (λ (u : Bool). (u || z) ≡ true) k (sym l)))
    go None false false false i = absurd (let u : ◌≡◌ {A = ℕ} 0 1 = cc in omega arith)

pub meaning : (c : Setting) (n : Naming c.own) → Meaning c n
meaning c n v r xs d o =
    record {
      asked = λ k t e. asked_by c n v r xs d o k t e;
      spent = λ h k w l f. spent-before c n v r xs d o h k w l f;
      stolen = λ x y z e. robbed-of x y z e;
      not_asked = λ e f. let q = no_line c n v r (sat v xs) d e in safe-if c n v r f d xs o q.1 q.2 q.3;
    }
  where
    robbed-of : (x y z : Bool) → verdict (sat v xs) (claim d) ≡ Stolen x y z → RobbedOf c n d x y z
    robbed-of x y z e =
        let q = of-stolen (sat v xs) (claim d) x y z e in
        let same : map n.key_of (thefts xs) ≡ d.stolen = sym o.0.stolen in
        record {
          of_reader = λ i. sym q.0 ∙ exact c n v r xs o.1 d.reader i (o.0.knows.of_reader i) ∙ ap (λ (u : List ℕ). is_in (n.key_of d.reader) u) same;
          of_service = sym q.1 ∙ exact c n v r xs o.1 d.service o.0.there o.0.knows.of_service ∙ ap (λ (u : List ℕ). is_in (n.key_of d.service) u) same;
          of_house = sym q.2 ∙ exact c n v r xs o.1 0 (house-there c n v r xs o.1) o.0.knows.of_house ∙ ap (λ (u : List ℕ). is_in (n.key_of 0) u) same;
          one = q.3;
        }
