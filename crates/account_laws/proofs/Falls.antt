-- What lasts over changes and falls. Assumes nothing.
use Rattle.std.proofs.Common.{◌≡◌, ℕ, ◌-◌, ◌<◌, ◌≤◌, Bool, true, false, cond, not, eqb, ltb, leb, ◌⊎◌, List, length, drop, set, replicate, Some, None, Option, Err, sym, refl, ap, ◌∙◌, subst, inl, inr, arith}
use Rattle.account_laws.proofs.Codec.{back}
use Rattle.account_laws.proofs.Sound.{Finds, Sound, all_in_lem, on-newest, rise-more, rise-same, risen-same}
use Rattle.account_laws.proofs.Start.{SoundAt, start-sound}
use Rattle.account_laws.specs.Codec.{Full}
use Rattle.account_laws.specs.Falls.{Answered, Answering, Fair, Falling, Happening, Leaves, Rise, Risen, Rising, Run, Starting, Staying, calls, falls, rests}
use Rattle.accounts.specs.Bytes.{steady}
use Rattle.accounts.specs.Entry.{Sized, above}
use Rattle.accounts.specs.File.{Begins, Kept, State, Tries, accounts_on, all_in, begun, goes, holding, rises, state, whole}
use Rattle.accounts.specs.Payload.{accounts_in, measure, payload}
use Rattle.halves.proofs.Finding.{block-other, block-put, failing, next-is, writing}
use Rattle.halves.proofs.Parts.{length-half}
use Rattle.halves.specs.Blocks.{Blocks, block, other, over, put}
use Rattle.halves.specs.Half.{blank, decoded, half, is_zero, sized}
use Rattle.halves.specs.Halves.{Starts, full, good_of, is_new, known_of, next_of, payload_of, standing, wrote, which_of}
use Rattle.halves.specs.Laws.{Cut, Junk, Junks, KnowsAt, Knows, New, Old, cut_by}
use Rattle.halves.specs.declared.half.Half.{Half}
use Rattle.halves.specs.declared.halves.Good.{Good}
use Rattle.halves.specs.declared.halves.Halves.{Halves}
use Rattle.halves.specs.declared.which.Which.{Which}
use Rattle.halves.specs.declared.which.Which.TheVariants.{First, Second}
use Rattle.house_rules.specs.Account.{account_of, closed}
use Rattle.parts.specs.Account.{is_closed}
use Rattle.house_rules.specs.Change.{changed, closed_of, shut, shut_after, shut_from, written}
use Rattle.parts.specs.declared.account.Account.{Account}
use Rattle.parts.specs.declared.account.Account.TheVariants.{Absent, Closed, Open}
use Rattle.parts.specs.declared.fault.Fault.TheVariants.{Unknown}
use Rattle.parts.specs.declared.word.Key.{Key}
use Rattle.service_rules.specs.Service.{nobody}
use Rattle.std.proofs.lemmas.Slice.Eq.{bytes_eq-Decides}
use Rattle.std.proofs.lemmas.List.{get_or_past, get_or-set_other, get_or-set_same, length-append, length-drop, length-set, set_past}
use Rattle.std.proofs.lemmas.Bool.{and_from, and_left, and_parts, and_right, cases_eq, cases_lt, cond-true, eq-eqb, eqb-false, eqb-true, not-true, or_parts}

abbrev the-key : List ℕ → Key
the-key bs = record { 0 = bs }

-- what an account may become has risen
above-risen : (a b : Account) → above a b ≡ true → Risen a b
above-risen a Absent e = let z : ◌≡◌ {A = ℕ} 0 1 = cc in absurd (omega arith)
above-risen Absent (Open k) e = tt
above-risen (Open l) (Open k) e = let z : ◌≡◌ {A = ℕ} 0 1 = cc in absurd (omega arith)
above-risen (Closed l) (Open k) e = let z : ◌≡◌ {A = ℕ} 0 1 = cc in absurd (omega arith)
above-risen Absent (Closed k) e = tt
above-risen (Open l) (Closed k) e = ap (λ (bs : List ℕ). the-key bs) ((bytes_eq-Decides l.0 k.0).0 e)
above-risen (Closed l) (Closed k) e = let z : ◌≡◌ {A = ℕ} 0 1 = cc in absurd (omega arith)

-- changing one account
abbrev Set : List Account → ℕ → Account → ℕ → Type 0
Set xs n a m = (account_of (set xs n a) m ≡ account_of xs m) ⊎ ((m ≡ n) × (account_of (set xs n a) m ≡ a))

set_cases : (xs : List Account) (n : ℕ) (a : Account) (m : ℕ) → Set xs n a m
set_cases xs n a m = go (cases_eq m n) (cases_lt n (length xs))
  where
    go : (m ≡ n) ⊎ (m ≡ n → ⊥) → (n < length xs) ⊎ (length xs ≤ n) → Set xs n a m
    go (inr d) l = inl (get_or-set_other xs n m a Absent d)
    go (inl e) (inr l) = inl (ap (λ (ys : List Account). account_of ys m) (set_past xs n a l))
    go (inl e) (inl l) = inr (e, ap (account_of (set xs n a)) e ∙ get_or-set_same xs n a Absent l)

rise-set : (xs : List Account) (n : ℕ) (a : Account) → Risen (account_of xs n) a → Rise xs (set xs n a)
rise-set xs n a r m = go (set_cases xs n a m)
  where
    P : Account → Type 0
    P y = Risen (account_of xs m) y

    go : Set xs n a m → Risen (account_of xs m) (account_of (set xs n a) m)
    go (inl e) = subst P (sym e) (risen-same (account_of xs m))
    go (inr e) =
        let Q : ℕ → Type 0 = λ k. Risen (account_of xs k) a in
        subst P (sym e.1) (subst Q (sym e.0) r)

full-set : (xs : List Account) (n : ℕ) (a : Account) → Full xs → (n ≡ 0 → ⊥) → Sized a → Full (set xs n a)
full-set xs n a f d z = record {
  count = length-set xs n a ∙ f.count;
  nobody = get_or-set_other xs n 0 a Absent (λ e. d (sym e)) ∙ f.nobody;
  keyed = λ m. go m (set_cases xs n a m);
}
  where
    P : Account → Type 0
    P y = Sized y

    go : (m : ℕ) → Set xs n a m → Sized (account_of (set xs n a) m)
    go m (inl e) = subst P (sym e) (f.keyed m)
    go m (inr e) = subst P (sym e.1) z

-- a write that goes somewhere has a turn, and all accounts
next-len : (h : Halves) (n : ℕ) (g : Good) → next_of h n ≡ Some g → g.half.len ≡ n
next-len h n g e = sym (ap (λ (x : Good). x.half.len) (next-is h n g e).0)

next-which : (h : Halves) (n : ℕ) (g : Good) → next_of h n ≡ Some g → g.which ≡ which_of h
next-which h n g e = sym (ap (λ (x : Good). x.which) (next-is h n g e).0)

-- it goes somewhere only if the account rises
goes_some : (s : State) (n : ℕ) (a : Account) (g : Good) → goes s n a ≡ Some g
    → (rises s.accounts n a ≡ true) × (next_of s.known 33792 ≡ Some g)
goes_some s n a g e = go (rises s.accounts n a) refl e
  where
    go : (v : Bool) → rises s.accounts n a ≡ v → cond v (next_of s.known 33792) None ≡ Some g
        → (rises s.accounts n a ≡ true) × (next_of s.known 33792 ≡ Some g)
    go true r f = (r, f)
    go false r f = let z : ◌≡◌ {A = ℕ} 0 1 = cc in absurd (omega arith)

knows : (xs : List Account) (h : Halves) (b : Blocks) → Sound xs h b → Knows measure h b
knows xs h b s = let P : Option Good → Type 0 = λ o. KnowsAt measure o h.last b in subst P (sym s.newest) s.stands

-- the blocks once a half with these accounts was written
abbrev After : Good → List Account → Blocks → Blocks
After g ys b = cut_by g.which (half g.half.turn (payload ys)) New b

-- a file of its size, by the lengths of its blocks
whole_by : (b : Blocks) (w : Which) → length (block w b) ≡ 33816 → length (block (other w) b) ≡ 33816 → whole b ≡ true
whole_by b First e f = and_from (eqb (length b.first) 33816) (eqb (length b.second) 33816) (eq-eqb (length b.first) 33816 e) (eq-eqb (length b.second) 33816 f)
whole_by b Second e f = and_from (eqb (length b.first) 33816) (eqb (length b.second) 33816) (eq-eqb (length b.first) 33816 f) (eq-eqb (length b.second) 33816 e)

whole-len : (b : Blocks) (w : Which) → whole b ≡ true → length (block w b) ≡ 33816
whole-len b First v = eqb-true (length b.first) 33816 (and_parts (eqb (length b.first) 33816) (eqb (length b.second) 33816) v).0
whole-len b Second v = eqb-true (length b.second) 33816 (and_parts (eqb (length b.first) 33816) (eqb (length b.second) 33816) v).1

-- it keeps its size where the written block keeps its length
whole-still : (b c : Blocks) (w : Which) → whole b ≡ true → block (other w) c ≡ block (other w) b → length (block w c) ≡ length (block w b) → whole c ≡ true
whole-still b c w v o l = whole_by c w (l ∙ whole-len b w v) (ap length o ∙ whole-len b (other w) v)

-- a half written whole keeps the size
length_over : (t : ℕ) (p x : List ℕ) → length p ≡ 33792 → length x ≡ 33816 → length (over (half t p) x) ≡ length x
length_over t p x l m = omega (arith, length-append (half t p) (drop (length (half t p)) x), length-drop (length (half t p)) x, length-half t p)

-- a half with all accounts that was written: it is found, and it stands
pub record Whole (g : Good) (ys : List Account) (b : Blocks) : Type 0 where
  pub size : whole (After g ys b) ≡ true
  pub finds : accounts_on (standing measure (After g ys b)) (After g ys b) ≡ Some ys
  pub stands : decoded measure (block g.which (After g ys b)) ≡ Some g.half
  pub holds : accounts_in (payload_of (Some g) (After g ys b)) ≡ ys

wholly : (xs : List Account) (h : Halves) (b : Blocks) → Sound xs h b → (ys : List Account) → Full ys → (g : Good) → next_of h 33792 ≡ Some g → Whole g ys b
wholly xs h b s ys f g e =
    let p = payload ys in
    let k = back ys f in
    let c = After g ys b in
    let fit : measure p ≡ Some (length p) = k.1 ∙ ap Some (sym k.0) in
    let w = writing measure steady h b (knows xs h b s) p fit g (ap (next_of h) k.0 ∙ e) in
    let q : payload_of (Some g) c ≡ p = ap (λ (o : Option Good). payload_of o c) (sym w.0) ∙ w.1 in
    let old = block g.which b in
    let len : length (block g.which c) ≡ length old =
    ap length (block-put g.which (over (half g.half.turn p) old) b) ∙ length_over g.half.turn p old k.0 (whole-len b g.which s.size) in
    let v : whole c ≡ true = whole-still b c g.which s.size (block-other g.which (over (half g.half.turn p) old) b) len in
    record {
      size = v;
      finds = cond-true (whole c) (all_in (payload_of (standing measure c).newest c)) None v ∙ ap all_in w.1 ∙ all_in_lem p k.0 ∙ ap Some k.2;
      stands = w.2;
      holds = ap accounts_in q ∙ k.2;
    }

-- where the other half is junk, this one is found
alone : (b : Blocks) (v w : Which) (k : Half) → w ≡ other v → decoded measure (block v b) ≡ Some k → decoded measure (block w b) ≡ None
    → (standing measure b).newest ≡ Some (good_of v k)
alone b First First k q d j = let z : ◌≡◌ {A = ℕ} 0 1 = cc in absurd (omega arith)
alone b First Second k q d j =
    ap (λ (o : Option Half). (known_of 0 o (decoded measure b.second)).newest) d ∙ ap (λ (o : Option Half). (known_of 0 (Some k) o).newest) j
alone b Second First k q d j =
    ap (λ (o : Option Half). (known_of 0 o (decoded measure b.second)).newest) j ∙ ap (λ (o : Option Half). (known_of 0 None o).newest) d
alone b Second Second k q d j = let z : ◌≡◌ {A = ℕ} 0 1 = cc in absurd (omega arith)

-- the other half is as it was, whatever a write left
cut-other : (w : Which) (bs : List ℕ) (x : Cut) (b : Blocks) → block (other w) (cut_by w bs x b) ≡ block (other w) b
cut-other w bs Old b = refl
cut-other w bs New b = block-other w (over bs (block w b)) b
cut-other w bs (Junk x) b = block-other w x b

-- a write that was told as done
kept-sound : (xs : List Account) (h : Halves) (b : Blocks) → Sound xs h b → (ys : List Account) → Full ys → (g : Good) → next_of h 33792 ≡ Some g
    → Sound ys (wrote h g) (After g ys b)
kept-sound xs h b s ys f g e =
    let w = wholly xs h b s ys f g e in
    record {
      full = f;
      size = w.size;
      good = g;
      newest = refl;
      stands = w.stands;
      holds = w.holds;
      later = record { then = ys; found = w.finds; risen = rise-same ys ys refl };
    }

-- the newest good half stands after a write that was not, whatever it left
pub record Still (good : Good) (xs : List Account) (b : Blocks) : Type 0 where
  pub stands : decoded measure (block good.which b) ≡ Some good.half
  pub holds : accounts_in (payload_of (Some good) b) ≡ xs

still : (xs : List Account) (h : Halves) (b c : Blocks) → (s : Sound xs h b) → (g : Good) → next_of h 33792 ≡ Some g
    → block (other g.which) c ≡ block (other g.which) b → Still s.good xs c
still xs h b c s g e o =
    let f = failing measure h b c (knows xs h b s) 33792 g e o in
    let P : Option Good → Type 0 = λ y. KnowsAt measure y h.last c in
    let Q : Option Good → Type 0 = λ y. payload_of y c ≡ payload_of y b in
    record { stands = subst P s.newest f.0; holds = ap accounts_in (subst Q s.newest f.1) ∙ s.holds }

-- what a start finds then
found_after : (xs : List Account) (h : Halves) (b : Blocks) → (s : Sound xs h b) → (ys : List Account) → Full ys → Rise xs ys → (g : Good) → next_of h 33792 ≡ Some g
    → (x : Cut) → Junks measure x → whole (cut_by g.which (half g.half.turn (payload ys)) x b) ≡ true
    → Finds xs (cut_by g.which (half g.half.turn (payload ys)) x b)
found_after xs h b s ys f r g e Old j v = s.later
found_after xs h b s ys f r g e New j v = record { then = ys; found = (wholly xs h b s ys f g e).finds; risen = r }
found_after xs h b s ys f r g e (Junk x) j v =
    let c = put g.which x b in
    let t = still xs h b c s g e (block-other g.which x b) in
    let w : g.which ≡ other s.good.which =
    next-which h 33792 g e ∙ ap (λ (o : Option Good). which_of record { newest = o; junk = h.junk; last = h.last }) s.newest in
    let n : (standing measure c).newest ≡ Some s.good =
    alone c s.good.which g.which s.good.half w t.stands (ap (decoded measure) (block-put g.which x b) ∙ j) in
    record { then = xs; found = on-newest c s.good v n ∙ ap Some t.holds; risen = rise-same xs xs refl }

-- a write that was not told as done
failed-sound : (xs : List Account) (h : Halves) (b : Blocks) → (s : Sound xs h b) → (ys : List Account) → Full ys → Rise xs ys → (g : Good) → next_of h 33792 ≡ Some g
    → (x : Cut) → Junks measure x
    → length (block g.which (cut_by g.which (half g.half.turn (payload ys)) x b)) ≡ length (block g.which b)
    → Sound xs h (cut_by g.which (half g.half.turn (payload ys)) x b)
failed-sound xs h b s ys f r g e x j l =
    let bs = half g.half.turn (payload ys) in
    let c = cut_by g.which bs x b in
    let t = still xs h b c s g e (cut-other g.which bs x b) in
    let v : whole c ≡ true = whole-still b c g.which s.size (cut-other g.which bs x b) l in
    record {
      full = s.full;
      size = v;
      good = s.good;
      newest = s.newest;
      stands = t.stands;
      holds = t.holds;
      later = found_after xs h b s ys f r g e x j v;
    }

sound-of : (t : State) (xs : List Account) (h : Halves) (b : Blocks) → t.accounts ≡ xs → t.known ≡ h → t.blocks ≡ b → Sound xs h b → SoundAt t
sound-of t xs h b e f k s =
    let P : List Account → Type 0 = λ y. Sound y t.known t.blocks in
    let Q : Halves → Type 0 = λ y. Sound xs y t.blocks in
    let R : Blocks → Type 0 = λ y. Sound xs h y in
    subst P (sym e) (subst Q (sym f) (subst R (sym k) s))

-- what a step leaves
abbrev Goes : State → State → Type 0
Goes s t = SoundAt t × Rise s.accounts t.accounts

same-goes : (s t : State) → SoundAt s → t ≡ s → Goes s t
same-goes s t i e = let P : State → Type 0 = λ y. Goes s y in subst P (sym e) (i, rise-same s.accounts s.accounts refl)

tries-goes : (s t : State) (n : ℕ) (a : Account) → SoundAt s → Sized a → (v : Option Good) → goes s n a ≡ v → (r : Bool)
    → Tries v s (set s.accounts n a) r t → Leaves v (set s.accounts n a) r s.blocks t.blocks → Goes s t
tries-goes s t n a i z None e r k l = same-goes s t i k.1
tries-goes s t n a i z (Some g) e true k l =
    let q = goes_some s n a g e in
    let w = and_parts (not (eqb n 0)) (above (account_of s.accounts n) a) q.0 in
    let ys = set s.accounts n a in
    let f = full-set s.accounts n a i.full (eqb-false n 0 (not-true (eqb n 0) w.0)) z in
    let P : List Account → Type 0 = λ y. Rise s.accounts y in (
      sound-of t ys (wrote s.known g) (After g ys s.blocks) k.1 k.2 k.0 (kept-sound s.accounts s.known s.blocks i ys f g q.1),
      subst P (sym k.1) (rise-set s.accounts n a (above-risen (account_of s.accounts n) a w.1)),
    )
tries-goes s t n a i z (Some g) e false k l =
    let q = goes_some s n a g e in
    let w = and_parts (not (eqb n 0)) (above (account_of s.accounts n) a) q.0 in
    let ys = set s.accounts n a in
    let f = full-set s.accounts n a i.full (eqb-false n 0 (not-true (eqb n 0) w.0)) z in
    let r = rise-set s.accounts n a (above-risen (account_of s.accounts n) a w.1) in (
      sound-of t s.accounts s.known (cut_by g.which (half g.half.turn (payload ys)) l.0 s.blocks) k.1 k.2 l.2
          (failed-sound s.accounts s.known s.blocks i ys f r g q.1 l.0 l.1 (ap (λ (d : Blocks). length (block g.which d)) (sym l.2) ∙ l.3)),
      rise-same s.accounts t.accounts (sym k.1),
    )

call-goes : (s t : State) → SoundAt s → (k : Kept s t) → Fair s t k → Goes s t
call-goes s t i (inl e) f = same-goes s t i e
call-goes s t i (inr k) f = tries-goes s t k.0 k.1 i k.3 (goes s k.0 k.1) refl k.2 k.4 f

-- a device with a good half is not new
good-zero : (x : List ℕ) (k : Half) → decoded measure x ≡ Some k → is_zero x ≡ false
good-zero x k e = go (blank x) refl e
  where
    go : (v : Bool) → blank x ≡ v → cond v None (sized (measure (drop 8 x)) x) ≡ Some k → is_zero x ≡ false
    go true q f = let z : ◌≡◌ {A = ℕ} 0 1 = cc in absurd (omega arith)
    go false q f = (or_parts (ltb (length x) 24) (is_zero x) q).1

good-full : (x : List ℕ) (k : Half) → decoded measure x ≡ Some k → full 33792 x ≡ false
good-full x k e = and_right (leb 24 (length x)) _ (and_right (eqb (length x - 24) 33792) (is_zero x) (good-zero x k e))

not_new : (b : Blocks) (w : Which) (k : Half) → decoded measure (block w b) ≡ Some k → is_new 33792 b ≡ false
not_new b First k e = and_left (full 33792 b.first) (full 33792 b.second) (good-full b.first k e)
not_new b Second k e = and_right (full 33792 b.first) (full 33792 b.second) (good-full b.second k e)

-- what a start holds after a fall
fall-holds : (s : State) (i : SoundAt s) (o : Option State) (c : Blocks) → Begins s.blocks o c
    → o ≡ Some (state i.later.then (standing measure s.blocks) s.blocks)
fall-holds s i o c g =
    let b = s.blocks in
    let h = standing measure b in
    let S : Bool → Type 0 = λ v. Starts v measure b (replicate 33816 0) g.known c g.left in
    let m = subst S (not_new b i.good.which i.good.half i.stands) g.starts in
    g.holds
    ∙ ap (λ (y : Halves). begun y c) m.0
    ∙ ap (λ (d : Blocks). begun h d) m.1
    ∙ ap (λ (y : Option (List Account)). holding y h b) i.later.found

fall-goes : (s t : State) → SoundAt s → (c : Blocks) → Begins s.blocks (Some t) c → Goes s t
fall-goes s t i c g =
    let u = state i.later.then (standing measure s.blocks) s.blocks in
    let k : Some t ≡ Some u = fall-holds s i (Some t) c g in
    let e : t ≡ u = cc in
    let P : List Account → Type 0 = λ y. Rise s.accounts y in
    (start-sound s.blocks c t g, subst P (sym (ap (λ (y : State). y.accounts) e)) i.later.risen)

run-goes : {s t : State} → Run s t → SoundAt s → Goes s t
run-goes (rests s) i = (i, rise-same s.accounts s.accounts refl)
run-goes (calls s u t k f r) i =
    let a = call-goes s u i k f in
    let b = run-goes r a.0 in
    (b.0, rise-more s.accounts u.accounts t.accounts a.1 b.1)
run-goes (falls s u t c g r) i =
    let a = fall-goes s u i c g in
    let b = run-goes r a.0 in
    (b.0, rise-more s.accounts u.accounts t.accounts a.1 b.1)

pub rising : Rising
rising b c s t u g r q = (run-goes q (run-goes r (start-sound b c s g)).0).1

closed-risen : (x y : Account) → Risen x y → is_closed x ≡ true → is_closed y ≡ true
closed-risen Absent y r e = let z : ◌≡◌ {A = ℕ} 0 1 = cc in absurd (omega arith)
closed-risen (Open k) y r e = let z : ◌≡◌ {A = ℕ} 0 1 = cc in absurd (omega arith)
closed-risen (Closed k) Absent r e = absurd r
closed-risen (Closed k) (Open l) r e = absurd r
closed-risen (Closed k) (Closed l) r e = refl

pub staying : Staying
staying b c s t u g r q n e = closed-risen (account_of t.accounts n) (account_of u.accounts n) (rising b c s t u g r q n) e

-- an account that is there has its place
there : (xs : List Account) (n : ℕ) (k : Key) → account_of xs n ≡ Open k → n < length xs
there xs n k e = go (cases_lt n (length xs))
  where
    go : (n < length xs) ⊎ (length xs ≤ n) → n < length xs
    go (inl l) = l
    go (inr l) = let a = get_or_past xs n Absent l in let z : ◌≡◌ {A = ℕ} 0 1 = cc in absurd (omega arith)

-- a closing that was answered: the account is closed
shut-closed : (xs : List Account) (n : ℕ) (w : Bool) → Answered (shut xs n w) → closed (shut_after xs n w) n ≡ true
shut-closed xs n w a = by (nobody n) a
  where
    told : (k : Key) → account_of xs n ≡ Open k → (v : Bool) → Answered (written v) → closed (changed xs n (Closed k) (written v)) n ≡ true
    told k e true f = ap is_closed (get_or-set_same xs n (Closed k) Absent (there xs n k e))
    told k e false f = absurd f

    own : (x : Account) → account_of xs n ≡ x → Answered (shut_from x w) → closed (changed xs n (closed_of x) (shut_from x w)) n ≡ true
    own Absent e f = absurd f
    own (Open k) e f = told k e w f
    own (Closed k) e f = ap is_closed e

    by : (v : Bool) → Answered (cond v (Err Unknown) (shut_from (account_of xs n) w))
        → closed (changed xs n (closed_of (account_of xs n)) (cond v (Err Unknown) (shut_from (account_of xs n) w))) n ≡ true
    by true f = absurd f
    by false f = own (account_of xs n) refl f

pub answering : Answering
answering b c s t v u g r n w a e k f q =
    let i = (run-goes r (start-sound b c s g)).0 in
    let j = (call-goes t v i k f).0 in
    let x : closed v.accounts n ≡ true = ap (λ (y : List Account). closed y n) e ∙ shut-closed t.accounts n w a in
    closed-risen (account_of v.accounts n) (account_of u.accounts n) ((run-goes q j).1 n) x

pub again : Starting
again b c d s t o g r h =
    let i = (run-goes r (start-sound b c s g)).0 in
    (state i.later.then (standing measure t.blocks) t.blocks, fall-holds t i o d h)

pub happening : Happening
happening s n a g z e x j l =
    let ys = set s.accounts n a in
    let bs = half g.half.turn (payload ys) in
    let c = cut_by g.which bs x s.blocks in
    let t = state s.accounts s.known c in
    let T : Option Good → Type 0 = λ v. Tries v s ys false t in
    let L : Option Good → Type 0 = λ v. Leaves v ys false s.blocks c in (
      t,
      inr (n, a, false, z, subst T (sym e) (cut-other g.which bs x s.blocks, refl, refl)),
      subst L (sym e) (x, j, refl, l),
      refl,
    )

pub falling : Falling
falling b c s t g r =
    let i = (run-goes r (start-sound b c s g)).0 in
    let d = t.blocks in
    let h = standing measure d in
    let u = state i.later.then h d in
    let S : Bool → Type 0 = λ v. Starts v measure d (replicate 33816 0) h d (replicate 33816 0) in
    let n = not_new d i.good.which i.good.half i.stands in (
      u,
      record {
        known = h;
        left = replicate 33816 0;
        starts = subst S (sym n) (refl, refl, refl);
        holds = sym (ap (λ (y : Option (List Account)). holding y h d) i.later.found);
      },
    )
