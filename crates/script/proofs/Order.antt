-- Every town is orderly. Assumes nothing.
use Rattle.std.proofs.Common.{◌≡◌, ℕ, ◌+◌, ◌^◌, ◌<◌, ◌≤◌, Bool, true, false, cond, ◌||◌, eqb, ltb, leb, List, [], ◌∷◌, ◌++◌, length, Some, None, Option, sym, refl, ap, ◌∙◌, subst, ⊎_elim, arith, length-append}
use Rattle.std.proofs.lemmas.List.Sums.{sum_by-cons, sum_by_push}
use Rattle.std.proofs.lemmas.Bool.Decides.{nat_tests}
use Rattle.std.proofs.lemmas.Bool.{eqb-true, eqb-false, ltb-false, leb-false, cond_both, cases_Bool, or_parts}
use Rattle.commands.specs.declared.line.Account.{Account}
use Rattle.commands.specs.declared.line.Settings.{Settings}
use Rattle.commands.specs.declared.verbs.Verb.{Verb}
use Rattle.commands.specs.declared.verbs.Verb.TheVariants as verb
use Rattle.commands.specs.Said as say
use Rattle.script.specs.declared.town.Answer.TheVariants as answers
use Rattle.words.specs.Text.{cut_at, decimal_of, principal_of, principal_then, hex_of, key_of, and_then}
use Rattle.commands.specs.Grammar.{account_of, settings_of, wish_of, repeat_of, join_of, making_of, opening_of, cut_of, device_of, says_of, saying_of, silent, read_of}
use Rattle.commands.specs.Arguments.{side_of}
use Rattle.commands.specs.Verbs.{verb_of}
use Rattle.script.specs.Play.{Seen, Outcome, nobody, known, opened, with_reader, with_service, ticked, begun, acted, heard, in_range}
use Rattle.script.specs.There.{there}
use Rattle.commands.proofs.Ifs.{If, if-any, if-then}
use Rattle.script.specs.Laws.{with_number, holders, Orderly, StaysOrderly, FaultsChangeNothing, TimeGoesOn, after, TownsAreOrderly}

-- What is read: a number of 1 to 1,023.

abbrev Good : Account → Type 0
Good a = (1 ≤ a.number) × (a.number ≤ 1023)

abbrev GoodLine : say.Said → Type 0
GoodLine (say.Reader a) = Good a
GoodLine (say.Service a) = Good a
GoodLine _ = Unit {0}

good-principal : (s : List ℕ) → If (λ n. (1 ≤ n) × (n ≤ 1023)) (principal_of s)
good-principal s =
    if-then (λ _. Unit {0}) (λ n. (1 ≤ n) × (n ≤ 1023)) (decimal_of s) _ (if-any (decimal_of s))
    (λ n _. cond_both (eqb n 0) None (cond (ltb 1023 n) None (Some n)) (If (λ n. (1 ≤ n) × (n ≤ 1023))) (λ _. tt) (λ z. cond_both (ltb 1023 n) None (Some n) (If (λ n. (1 ≤ n) × (n ≤ 1023))) (λ _. tt) (λ h. (omega (arith, eqb-false n 0 z), omega (arith, ltb-false 1023 n h)))))

good-account : (s : List ℕ) → If Good (account_of s)
good-account s =
    if-then (λ p. (1 ≤ p.0) × (p.0 ≤ 1023)) Good (principal_then s) _
    (if-then (λ _. Unit {0}) (λ p. (1 ≤ p.0) × (p.0 ≤ 1023)) (cut_at 32 s) _ (if-any (cut_at 32 s))
    (λ p _. if-then (λ n. (1 ≤ n) × (n ≤ 1023)) (λ q. (1 ≤ q.0) × (q.0 ≤ 1023)) (principal_of p.0) _ (good-principal p.0) (λ x h. h)))
    (λ n h. if-then (λ _. Unit {0}) Good (key_of n.1) _ (if-any (key_of n.1)) (λ k _. h))

-- a line that names nobody
names-nobody : {A : Type 0} (o : Option A) (line : A → say.Said) → ((x : A) → GoodLine (line x)) → If GoodLine (and_then o (λ x. Some (line x)))
names-nobody o line h = if-then (λ _. Unit {0}) GoodLine o _ (if-any o) (λ x _. h x)

good-says : (v : Verb) (s : List ℕ) → If GoodLine (says_of v s)
good-says verb.Reader s = if-then Good GoodLine (account_of s) _ (good-account s) (λ x h. h)
good-says verb.Service s = if-then Good GoodLine (account_of s) _ (good-account s) (λ x h. h)
good-says verb.Town s = names-nobody (settings_of s) (λ x. say.Town x) (λ x. tt)
good-says verb.Tick s = names-nobody (decimal_of s) (λ x. say.Tick x) (λ x. tt)
good-says verb.Want s = names-nobody (wish_of s) (λ x. say.Want x) (λ x. tt)
good-says verb.Close s = names-nobody (decimal_of s) (λ x. say.Close x) (λ x. tt)
good-says verb.Hold s = names-nobody (decimal_of s) (λ x. say.Hold x) (λ x. tt)
good-says verb.Repeat s = names-nobody (repeat_of s) (λ x. say.Repeat x.0 x.1) (λ x. tt)
good-says verb.Join s = names-nobody (join_of s) (λ x. say.Join x) (λ x. tt)
good-says verb.Steal s = names-nobody (decimal_of s) (λ x. say.Steal x) (λ x. tt)
good-says verb.Lock s = names-nobody (making_of s) (λ x. say.Lock x) (λ x. tt)
good-says verb.Unlock s = names-nobody (opening_of s) (λ x. say.Unlock x) (λ x. tt)
good-says verb.Bytes s = names-nobody (hex_of s) (λ x. say.Bytes x) (λ x. tt)
good-says verb.Fall s = names-nobody (side_of s) (λ x. say.Fall x) (λ x. tt)
good-says verb.Cut s = names-nobody (cut_of s) (λ x. say.Cut x.0 x.1) (λ x. tt)
good-says verb.Device s = names-nobody (device_of s) (λ x. say.Device x.0 x.1) (λ x. tt)

good-line : (s : List ℕ) → If GoodLine (read_of s)
good-line s =
    cond_both (ltb 1048576 (length s)) None (cond (silent s) (Some say.Blank) (saying_of s)) (If GoodLine) (λ _. tt)
    (λ _. cond_both (silent s) (Some say.Blank) (saying_of s) (If GoodLine) (λ _. tt)
    (λ _. if-then (λ _. Unit {0}) GoodLine (cut_at 32 s) _ (if-any (cut_at 32 s))
    (λ p _. if-then (λ _. Unit {0}) GoodLine (verb_of p.0) _ (if-any (verb_of p.0)) (λ v _. good-says v p.1))))

-- Who is there: one more belongs to a number that nobody has.

abbrev mark : Bool → ℕ
mark b = cond b 1 0

there-count : (n : ℕ) (l : List Account) → there n l ≡ false → with_number n l ≡ 0
there-count n [] h = refl
there-count n (a ∷ l) h =
    let parts = or_parts (eqb a.number n) (there n l) h in
    omega (arith, sum_by-cons (λ (x : Account). mark (eqb x.number n)) a l, ap mark parts.0, there-count n l parts.1)

unknown : (s : Seen) (n : ℕ) → known s n ≡ false → holders n s ≡ 0
unknown s n h =
    let parts = or_parts (there n s.readers) (there n s.services) h in
    omega (arith, there-count n s.readers parts.0, there-count n s.services parts.1)

count-push : (n : ℕ) (l : List Account) (a : Account) → with_number n (l ++ a ∷ []) ≡ with_number n l + mark (eqb a.number n)
count-push n l a = sum_by_push (λ (x : Account). mark (eqb x.number n)) l a

abbrev Fine : ℕ → ℕ → Type 0
Fine n count = (count ≤ 1) × (0 < count → (1 ≤ n) × (n ≤ 1023))

one_more : (s : Seen) (a : Account) → Orderly s → Good a → known s a.number ≡ false → (n : ℕ) → Fine n (holders n s + mark (eqb a.number n))
one_more s a h good new n = ⊎_elim
    (λ (e : eqb a.number n ≡ true).
    let same : a.number ≡ n = eqb-true a.number n e in
    let none : holders n s ≡ 0 = ap (λ k. holders k s) (sym same) ∙ unknown s a.number new in
    let one : mark (eqb a.number n) ≡ 1 = ap mark e in
    (omega arith, λ _. subst (λ k. (1 ≤ k) × (k ≤ 1023)) same good))
    (λ (e : eqb a.number n ≡ false).
    let zero : mark (eqb a.number n) ≡ 0 = ap mark e in
    let was = h.one_each n in
    (omega arith, λ some. h.in-range n (omega arith)))
    (cases_Bool (eqb a.number n))

orderly-reader : (s : Seen) (a : Account) → Orderly s → Good a → Orderly (with_reader s a).town
orderly-reader s a h good =
    cond_both (leb 16 (length s.readers) || known s a.number) _ _ (λ (o : Outcome). Orderly o.town) (λ _. h)
    (λ e.
    let parts = or_parts (leb 16 (length s.readers)) (known s a.number) e in
    let fine : (n : ℕ) → Fine n (with_number n (s.readers ++ a ∷ []) + with_number n s.services) =
    λ n. subst (Fine n) (omega (arith, count-push n s.readers a)) (one_more s a h good parts.1 n) in
    record {
      readers_fit = omega (arith, leb-false 16 (length s.readers) parts.0, length-append s.readers (a ∷ []));
      services_fit = h.services_fit;
      one_each = λ n. (fine n).0;
      in-range = λ n. (fine n).1;
      in_time = h.in_time;
      from_zero = h.from_zero;
    })

orderly-service : (s : Seen) (a : Account) → Orderly s → Good a → Orderly (with_service s a).town
orderly-service s a h good =
    cond_both (leb 8 (length s.services) || known s a.number) _ _ (λ (o : Outcome). Orderly o.town) (λ _. h)
    (λ e.
    let parts = or_parts (leb 8 (length s.services)) (known s a.number) e in
    let fine : (n : ℕ) → Fine n (with_number n s.readers + with_number n (s.services ++ a ∷ [])) =
    λ n. subst (Fine n) (omega (arith, count-push n s.services a)) (one_more s a h good parts.1 n) in
    record {
      readers_fit = h.readers_fit;
      services_fit = omega (arith, leb-false 8 (length s.services) parts.0, length-append s.services (a ∷ []));
      one_each = λ n. (fine n).0;
      in-range = λ n. (fine n).1;
      in_time = h.in_time;
      from_zero = h.from_zero;
    })

-- Time.

never-none : {x : Settings} → Some x ≡ None → ⊥
never-none e = let z : ◌≡◌ {A = ℕ} 0 1 = cc in omega arith

abbrev Later : Seen → Outcome → Type 0
Later s o = s.tick ≤ o.town.tick

orderly-open : (s : Seen) (x : Settings) → Orderly s → Orderly (opened s x).town
orderly-open s x h =
    cond_both (in_range x) _ _ (λ (o : Outcome). Orderly o.town)
    (λ e. record {
      readers_fit = h.readers_fit;
      services_fit = h.services_fit;
      one_each = h.one_each;
      in-range = h.in-range;
      in_time = grind (arith, nat_tests);
      from_zero = λ n. absurd (never-none n);
    })
    (λ _. h)

orderly-tick : (s : Seen) (t : ℕ) → (s.settings ≡ None → ⊥) → Orderly s → Orderly (ticked s t).town
orderly-tick s t on h =
    cond_both (ltb t s.tick || leb (2 ^ 63) t) _ _ (λ (o : Outcome). Orderly o.town) (λ _. h)
    (λ e.
    let parts = or_parts (ltb t s.tick) (leb (2 ^ 63) t) e in
    record {
      readers_fit = h.readers_fit;
      services_fit = h.services_fit;
      one_each = h.one_each;
      in-range = h.in-range;
      in_time = leb-false (2 ^ 63) t parts.1;
      from_zero = λ n. absurd (on n);
    })

later-tick : (s : Seen) (t : ℕ) → Later s (ticked s t)
later-tick s t =
    cond_both (ltb t s.tick || leb (2 ^ 63) t) _ _ (Later s) (λ _. omega arith)
    (λ e. ltb-false t s.tick (or_parts (ltb t s.tick) (leb (2 ^ 63) t) e).0)

later-open : (s : Seen) (x : Settings) → s.tick ≡ 0 → Later s (opened s x)
later-open s x zero = cond_both (in_range x) _ _ (Later s) (λ _. omega arith) (λ _. omega arith)

later-reader : (s : Seen) (a : Account) → Later s (with_reader s a)
later-reader s a = cond_both (leb 16 (length s.readers) || known s a.number) _ _ (Later s) (λ _. omega arith) (λ _. omega arith)

later-service : (s : Seen) (a : Account) → Later s (with_service s a)
later-service s a = cond_both (leb 8 (length s.services) || known s a.number) _ _ (Later s) (λ _. omega arith) (λ _. omega arith)

-- Faults.

abbrev Kept : Seen → Outcome → Type 0
Kept s o = o.answer ≡ answers.Fault → o.town ≡ s

kept-open : (s : Seen) (x : Settings) → Kept s (opened s x)
kept-open s x = cond_both (in_range x) _ _ (Kept s) (λ _ (e : answers.Town x.tick x.life x.lag ≡ answers.Fault). let z : ◌≡◌ {A = ℕ} 0 1 = cc in absurd (omega arith)) (λ _ _. refl)

kept-reader : (s : Seen) (a : Account) → Kept s (with_reader s a)
kept-reader s a = cond_both (leb 16 (length s.readers) || known s a.number) _ _ (Kept s) (λ _ _. refl) (λ _ (e : answers.Reader a.number ≡ answers.Fault). let z : ◌≡◌ {A = ℕ} 0 1 = cc in absurd (omega arith))

kept-service : (s : Seen) (a : Account) → Kept s (with_service s a)
kept-service s a = cond_both (leb 8 (length s.services) || known s a.number) _ _ (Kept s) (λ _ _. refl) (λ _ (e : answers.Service a.number ≡ answers.Fault). let z : ◌≡◌ {A = ℕ} 0 1 = cc in absurd (omega arith))

kept-tick : (s : Seen) (t : ℕ) → Kept s (ticked s t)
kept-tick s t = cond_both (ltb t s.tick || leb (2 ^ 63) t) _ _ (Kept s) (λ _ _. refl) (λ _ (e : answers.Tick t ≡ answers.Fault). let z : ◌≡◌ {A = ℕ} 0 1 = cc in absurd (omega arith))

-- A line, before the town is there and after.

split : (P : Outcome → Type 0) (s : Seen) (l : say.Said) (o : Option Settings) → s.settings ≡ o → (s.settings ≡ None → P (begun s l)) → ((s.settings ≡ None → ⊥) → P (acted s l)) → P (elim o [ None ↦ begun s l | Some x ↦ acted s l ])
split P s l None e p q = p e
split P s l (Some x) e p q = q (λ n. never-none (sym e ∙ n))

orderly-begun : (s : Seen) (l : say.Said) → Orderly s → Orderly (begun s l).town
orderly-begun s say.Blank h = h
orderly-begun s (say.Town x) h = orderly-open s x h
orderly-begun s _ h = h

orderly-acted : (s : Seen) (l : say.Said) → (s.settings ≡ None → ⊥) → GoodLine l → Orderly s → Orderly (acted s l).town
orderly-acted s say.Blank on good h = h
orderly-acted s (say.Reader a) on good h = orderly-reader s a h good
orderly-acted s (say.Service a) on good h = orderly-service s a h good
orderly-acted s (say.Tick t) on good h = orderly-tick s t on h
orderly-acted s _ on good h = h

orderly-heard : (s : Seen) (o : Option say.Said) → If GoodLine o → Orderly s → Orderly (heard s o).town
orderly-heard s None good h = h
orderly-heard s (Some l) good h = split (λ o. Orderly o.town) s l s.settings refl (λ _. orderly-begun s l h) (λ on. orderly-acted s l on good h)

pub stays-orderly : StaysOrderly
stays-orderly s l h = orderly-heard s (read_of l) (good-line l) h

later-begun : (s : Seen) (l : say.Said) → s.tick ≡ 0 → Later s (begun s l)
later-begun s say.Blank zero = omega arith
later-begun s (say.Town x) zero = later-open s x zero
later-begun s _ zero = omega arith

later-acted : (s : Seen) (l : say.Said) → Later s (acted s l)
later-acted s say.Blank = omega arith
later-acted s (say.Reader a) = later-reader s a
later-acted s (say.Service a) = later-service s a
later-acted s (say.Tick t) = later-tick s t
later-acted s _ = omega arith

later-heard : (s : Seen) (o : Option say.Said) → Orderly s → Later s (heard s o)
later-heard s None h = omega arith
later-heard s (Some l) h = split (Later s) s l s.settings refl (λ none. later-begun s l (h.from_zero none)) (λ _. later-acted s l)

pub time-goes-on : TimeGoesOn
time-goes-on s l h = later-heard s (read_of l) h

kept-begun : (s : Seen) (l : say.Said) → Kept s (begun s l)
kept-begun s say.Blank = λ _. refl
kept-begun s (say.Town x) = kept-open s x
kept-begun s _ = λ _. refl

kept-acted : (s : Seen) (l : say.Said) → Kept s (acted s l)
kept-acted s say.Blank = λ _. refl
kept-acted s (say.Reader a) = kept-reader s a
kept-acted s (say.Service a) = kept-service s a
kept-acted s (say.Tick t) = kept-tick s t
kept-acted s _ = λ _. refl

kept-heard : (s : Seen) (o : Option say.Said) → Kept s (heard s o)
kept-heard s None = λ _. refl
kept-heard s (Some l) = split (Kept s) s l s.settings refl (λ _. kept-begun s l) (λ _. kept-acted s l)

pub faults-change-nothing : FaultsChangeNothing
faults-change-nothing s l = kept-heard s (read_of l)

-- Whole scripts.

pub nobody-orderly : Orderly nobody
nobody-orderly = record {
  readers_fit = omega arith;
  services_fit = omega arith;
  one_each = λ n. omega arith;
  in-range = λ n some. absurd (omega arith);
  in_time = omega arith;
  from_zero = λ _. refl;
}

orderly-after : (s : Seen) (script : List (List ℕ)) → Orderly s → Orderly (after s script)
orderly-after s [] h = h
orderly-after s (l ∷ more) h = orderly-after (heard s (read_of l)).town more (stays-orderly s l h)

pub towns-are-orderly : TownsAreOrderly
towns-are-orderly script = orderly-after nobody script nobody-orderly
