-- What a start finds after writes. Assumes nothing.
use Rattle.std.proofs.Common.{◌≡◌, ℕ, ◌+◌, ◌-◌, ◌^◌, ◌<◌, ◌≤◌, Bool, true, false, cond, not, ltb, List, length, is_some, Some, None, Option, sym, refl, ap, ◌∙◌, subst, arith}
use Rattle.halves.proofs.Written.{decoded-after, part-after}
use Rattle.halves.specs.Blocks.{Blocks, block, other, over, put}
use Rattle.halves.specs.Half.{Measure, Steady, decoded, half}
use Rattle.halves.specs.Halves.{good_of, known_of, last_of, next_of, part_of, payload_of, standing, which_of}
use Rattle.halves.specs.Laws.{Failing, Fitting, Found, Junk, Knows, KnowsAt, New, Old, Recovering, Starting, Telling, Writing, cut_by, found}
use Rattle.halves.specs.declared.half.Half.{Half}
use Rattle.halves.specs.declared.halves.Good.{Good}
use Rattle.halves.specs.declared.halves.Halves.{Halves}
use Rattle.halves.specs.declared.which.Which.{Which}
use Rattle.halves.specs.declared.which.Which.TheVariants.{First, Second}
use Rattle.std.proofs.lemmas.Bool.{le-ltb, lt-ltb, ltb-true}

-- what is written next, if the turn can be followed
pub next-is : (h : Halves) (n : ℕ) (g : Good) → next_of h n ≡ Some g
    → (good_of (which_of h) record { turn = last_of h + 1; len = n } ≡ g) × (last_of h < 2 ^ 64 - 1)
next-is h n g e = go (ltb (last_of h) (2 ^ 64 - 1)) refl e
  where
    it : Good
    it = good_of (which_of h) record { turn = last_of h + 1; len = n }

    go : (t : Bool) → ltb (last_of h) (2 ^ 64 - 1) ≡ t → cond t (Some it) None ≡ Some g → (it ≡ g) × (last_of h < 2 ^ 64 - 1)
    go true s k = ((cc), ltb-true (last_of h) (2 ^ 64 - 1) s)
    go false s k = let z : ◌≡◌ {A = ℕ} 0 1 = cc in absurd (omega arith)

same-found : (n n' : Option Good) (p p' : List ℕ) (j j' : Bool) → n ≡ n' → p ≡ p' → j ≡ j'
    → ◌≡◌ {A = Found} record { newest = n; payload = p; junk = j } record { newest = n'; payload = p'; junk = j' }
same-found n n' p p' j j' e f g = cc

-- a start knows what it read
known_so : (m : Measure) (b : Blocks) (o q : Option Half) → decoded m b.first ≡ o → decoded m b.second ≡ q → Knows m (known_of 0 o q) b
known_so m b (Some h) (Some k) e f = go (ltb h.turn k.turn)
  where
    go : (t : Bool) → KnowsAt m (Some (cond t (good_of Second k) (good_of First h))) 0 b
    go true = f
    go false = e
known_so m b (Some h) None e f = e
known_so m b None (Some k) e f = f
known_so m b None None e f = λ k d. let z : ◌≡◌ {A = ℕ} 0 1 = cc in absurd (omega arith)

pub starting : Starting
starting m b = known_so m b (decoded m b.first) (decoded m b.second) refl refl

-- of two halves the one with the higher turn is the newest
first-newest : (o : Option Half) (h : Half) → ((k : Half) → o ≡ Some k → k.turn ≤ h.turn) → (known_of 0 (Some h) o).newest ≡ Some (good_of First h)
first-newest None h lo = refl
first-newest (Some k) h lo = ap (λ (v : Bool). Some (cond v (good_of Second k) (good_of First h))) (le-ltb h.turn k.turn (lo k refl))

second-newest : (o : Option Half) (k : Half) → ((h : Half) → o ≡ Some h → h.turn < k.turn) → (known_of 0 o (Some k)).newest ≡ Some (good_of Second k)
second-newest None k lo = refl
second-newest (Some h) k lo = ap (λ (v : Bool). Some (cond v (good_of Second k) (good_of First h))) (lt-ltb h.turn k.turn (lo h refl))

-- what is promised of a write that was told as done
abbrev Whole : Measure → ℕ → Blocks → List ℕ → Good → Type 0
Whole m l b p g =
    ((found m (cut_by g.which (half g.half.turn p) New b)).newest ≡ Some g)
    × ((found m (cut_by g.which (half g.half.turn p) New b)).payload ≡ p)
    × KnowsAt m (Some g) l (cut_by g.which (half g.half.turn p) New b)

to-first : (m : Measure) → Steady m → (l t : ℕ) (b : Blocks) (p : List ℕ) → Fitting m p → t < 2 ^ 64 - 1
    → ((k : Half) → decoded m b.second ≡ Some k → k.turn ≤ t)
    → Whole m l b p (good_of First record { turn = t + 1; len = length p })
to-first m st l t b p fit lt lo =
    let c = cut_by First (half (t + 1) p) New b in
    let h : Half = record { turn = t + 1; len = length p } in
    let d : decoded m c.first ≡ Some h = decoded-after m st (t + 1) p b.first (omega arith) (omega arith) fit in
    let n : (standing m c).newest ≡ Some (good_of First record { turn = t + 1; len = length p }) =
    ap (λ (o : Option Half). (known_of 0 o (decoded m b.second)).newest) d
    ∙ first-newest (decoded m b.second) h (λ k f. let le = lo k f in omega arith) in
    (n, ap (λ (o : Option Good). payload_of o c) n ∙ part-after (t + 1) p b.first, d)

to-second : (m : Measure) → Steady m → (l t : ℕ) (b : Blocks) (p : List ℕ) → Fitting m p → t < 2 ^ 64 - 1
    → ((k : Half) → decoded m b.first ≡ Some k → k.turn ≤ t)
    → Whole m l b p (good_of Second record { turn = t + 1; len = length p })
to-second m st l t b p fit lt lo =
    let c = cut_by Second (half (t + 1) p) New b in
    let h : Half = record { turn = t + 1; len = length p } in
    let d : decoded m c.second ≡ Some h = decoded-after m st (t + 1) p b.second (omega arith) (omega arith) fit in
    let n : (standing m c).newest ≡ Some (good_of Second record { turn = t + 1; len = length p }) =
    ap (λ (o : Option Half). (known_of 0 (decoded m b.first) o).newest) d
    ∙ second-newest (decoded m b.first) h (λ k f. let le = lo k f in omega arith) in
    (n, ap (λ (o : Option Good). payload_of o c) n ∙ part-after (t + 1) p b.second, d)

-- what is known to stand there has its turn
turn_is : (o : Option Half) (h : Half) → o ≡ Some h → (k : Half) → o ≡ Some k → k.turn ≤ h.turn
turn_is o h e k f =
    let same : k ≡ h = cc in
    let u : k.turn ≡ h.turn = ap (λ (x : Half). x.turn) same in
    omega arith

write-at : (m : Measure) → Steady m → (n : Option Good) (j : Bool) (l : ℕ) (b : Blocks) → KnowsAt m n l b → (p : List ℕ) → Fitting m p
    → last_of record { newest = n; junk = j; last = l } < 2 ^ 64 - 1
    → Whole m l b p (good_of (which_of record { newest = n; junk = j; last = l }) record { turn = last_of record { newest = n; junk = j; last = l } + 1; len = length p })
write-at m st None j l b kn p fit lt = to-first m st l l b p fit lt kn
write-at m st (Some g) j l b kn p fit lt = by g.which kn
  where
    by : (w : Which) → decoded m (block w b) ≡ Some g.half → Whole m l b p (good_of (other w) record { turn = g.half.turn + 1; len = length p })
    by First k = to-second m st l g.half.turn b p fit lt (turn_is (decoded m b.first) g.half k)
    by Second k = to-first m st l g.half.turn b p fit lt (turn_is (decoded m b.second) g.half k)

pub writing : Writing
writing m st h b kn p fit g e =
    let i = next-is h (length p) g e in
    let P : Good → Type 0 = λ x. Whole m h.last b p x in
    subst P i.0 (write-at m st h.newest h.junk h.last b kn p fit i.1)

other-other : (w : Which) → other (other w) ≡ w
other-other First = refl
other-other Second = refl

fail-at : (m : Measure) (n : Option Good) (l : ℕ) (b b' : Blocks) → KnowsAt m n l b
    → block (other (elim n [ None ↦ First | Some g ↦ other g.which ])) b' ≡ block (other (elim n [ None ↦ First | Some g ↦ other g.which ])) b
    → KnowsAt m n l b' × (payload_of n b' ≡ payload_of n b)
fail-at m None l b b' kn s = ((λ k f. kn k (ap (decoded m) (sym s) ∙ f)), refl)
fail-at m (Some g) l b b' kn s =
    let P : Which → Type 0 = λ w. block w b' ≡ block w b in
    let u : block g.which b' ≡ block g.which b = subst P (other-other g.which) s in
    (ap (decoded m) u ∙ kn, ap (λ (x : List ℕ). part_of g.half.len x) u)

pub failing : Failing
failing m h b b' kn n g e s =
    let i = next-is h n g e in
    let w : g.which ≡ which_of h = sym (ap (λ (x : Good). x.which) i.0) in
    let P : Which → Type 0 = λ v. block (other v) b' ≡ block (other v) b in
    fail-at m h.newest h.last b b' kn (subst P w s)

junk-first : (q : Option Half) → (known_of 0 None q).junk ≡ true
junk-first None = refl
junk-first (Some k) = refl

junk-second : (o : Option Half) → (known_of 0 o None).junk ≡ true
junk-second None = refl
junk-second (Some h) = refl

pub telling : Telling
telling m b First d = ap (λ (o : Option Half). (known_of 0 o (decoded m b.second)).junk) d ∙ junk-first (decoded m b.second)
telling m b Second d = ap (λ (o : Option Half). (known_of 0 (decoded m b.first) o).junk) d ∙ junk-second (decoded m b.first)

-- what is known if one of two halves is another
abbrev swap : Which → Option Half → Option Half → Option Half → Halves
swap First z o q = known_of 0 z q
swap Second z o q = known_of 0 o z

standing-put : (m : Measure) (w : Which) (x : List ℕ) (b : Blocks) → standing m (put w x b) ≡ swap w (decoded m x) (decoded m b.first) (decoded m b.second)
standing-put m First x b = refl
standing-put m Second x b = refl

-- the half that is written next becomes junk
swap-junk : (o q : Option Half) → swap (which_of (known_of 0 o q)) None o q ≡ record { newest = (known_of 0 o q).newest; junk = true; last = 0 }
swap-junk None None = refl
swap-junk None (Some k) = refl
swap-junk (Some h) None = refl
swap-junk (Some h) (Some k) = go (ltb h.turn k.turn)
  where
    go : (t : Bool) → swap (other (cond t (good_of Second k) (good_of First h)).which) None (Some h) (Some k) ≡ record { newest = Some (cond t (good_of Second k) (good_of First h)); junk = true; last = 0 }
    go true = refl
    go false = refl

-- the half that is written next becomes good
swap-good : (o q : Option Half) (z : Half) → (swap (which_of (known_of 0 o q)) (Some z) o q).junk ≡ not (is_some (known_of 0 o q).newest)
swap-good None None z = refl
swap-good None (Some k) z = refl
swap-good (Some h) None z = refl
swap-good (Some h) (Some k) z = go (ltb h.turn k.turn)
  where
    go : (t : Bool) → (swap (other (cond t (good_of Second k) (good_of First h)).which) (Some z) (Some h) (Some k)).junk ≡ false
    go true = refl
    go false = refl

pub block-put : (w : Which) (x : List ℕ) (b : Blocks) → block w (put w x b) ≡ x
block-put First x b = refl
block-put Second x b = refl

pub block-other : (w : Which) (x : List ℕ) (b : Blocks) → block (other w) (put w x b) ≡ block (other w) b
block-other First x b = refl
block-other Second x b = refl

pub recovering : Recovering
recovering m st b p fit g e Old j = refl
recovering m st b p fit g e New j =
    let o = decoded m b.first in
    let q = decoded m b.second in
    let h = standing m b in
    let all = writing m st h b (starting m b) p fit g e in
    let x = over (half g.half.turn p) (block g.which b) in
    let z = g.half in
    let w : g.which ≡ which_of h = sym (ap (λ (y : Good). y.which) (next-is h (length p) g e).0) in
    let d : decoded m x ≡ Some z = ap (decoded m) (sym (block-put g.which x b)) ∙ all.2 in
    let s : (standing m (put g.which x b)).junk ≡ not (is_some h.newest) =
    ap (λ (y : Halves). y.junk) (standing-put m g.which x b)
    ∙ ap (λ (y : Option Half). (swap g.which y o q).junk) d
    ∙ ap (λ (y : Which). (swap y (Some z) o q).junk) w
    ∙ swap-good o q z in
    same-found _ _ _ _ _ _ all.0 all.1 s
recovering m st b p fit g e (Junk x) j =
    let o = decoded m b.first in
    let q = decoded m b.second in
    let h = standing m b in
    let w : g.which ≡ which_of h = sym (ap (λ (y : Good). y.which) (next-is h (length p) g e).0) in
    let k : standing m (put g.which x b) ≡ record { newest = h.newest; junk = true; last = 0 } =
    standing-put m g.which x b
    ∙ ap (λ (y : Option Half). swap g.which y o q) j
    ∙ ap (λ (y : Which). swap y None o q) w
    ∙ swap-junk o q in
    let n : (standing m (put g.which x b)).newest ≡ h.newest = ap (λ (y : Halves). y.newest) k in
    let pay = (failing m h b (put g.which x b) (starting m b) (length p) g e (block-other g.which x b)).1 in
    same-found _ _ _ _ _ _ n (ap (λ (y : Option Good). payload_of y (put g.which x b)) n ∙ pay) (ap (λ (y : Halves). y.junk) k)
