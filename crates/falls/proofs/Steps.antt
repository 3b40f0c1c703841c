-- What holds after each step. Assumes nothing.
use Rattle.std.proofs.Common.{◌≡◌, ℕ, ◌+◌, ◌<◌, ◌≤◌, Bool, true, false, cond, ◌⊎◌, List, [], ◌∷◌, length, is_some, Some, None, Option, sym, refl, ap, ◌∙◌, subst, inl, inr, arith}
use Rattle.entries.specs.Bytes.{Fits, measured_of, packed, unpacked}
use Rattle.falls.proofs.Among.{in-last, in-live, in-recorded, in-stands, live-before, live-from-lately, live-le}
use Rattle.falls.proofs.Making.{make-so, new-junk}
use Rattle.falls.proofs.Reading.{fitting, steady, unpacked-packed}
use Rattle.falls.specs.Falls.{In, Left, LeftAt, LeftMaking, Remembered, Run, Starting, State, did, did_not, fell, first, ticked}
use Rattle.halves.proofs.Finding.{failing, starting, telling, writing}
use Rattle.halves.specs.Blocks.{Blocks, block, other, put}
use Rattle.halves.specs.Half.{decoded, half}
use Rattle.halves.specs.Halves.{Starts, known_of, makes, next_of, payload_of, standing, wrote}
use Rattle.halves.specs.Laws.{Cut, Junk, Junks, Knows, KnowsAt, New, Old, cut_by, found}
use Rattle.halves.specs.declared.half.Half.{Half}
use Rattle.halves.specs.declared.halves.Good.{Good}
use Rattle.halves.specs.declared.halves.Halves.{Halves}
use Rattle.halves.specs.declared.which.Which.{Which}
use Rattle.halves.specs.declared.which.Which.TheVariants.{First, Second}
use Rattle.parts.specs.Tick.{live}
use Rattle.parts.specs.declared.account.Entry.{Entry}
use Rattle.replay.specs.Replay.{Told, nothing}
use Rattle.service_rules.specs.Memory.{live_of, recorded}
use Rattle.std.proofs.lemmas.List.{length_push}
use Rattle.std.specs.List.{AllByRecursion}

-- what is known is so; what counts is what is remembered; what was done stands among it, or it waits and junk is told; a crash
-- finds what is remembered, or junk
record Inv (lag : ℕ) (done : List Entry) (s : State) : Type 0 where
  known : Knows measured_of s.halves s.blocks
  counts : unpacked (payload_of s.halves.newest s.blocks) ≡ s.kept
  past : (e : Entry) → In e done → e.tick ≤ s.now
  some : (e : Entry) → In e done → is_some s.halves.newest ≡ true
  safe : (e : Entry) → In e done → live s.now lag e.tick ≡ true → In e s.kept ⊎ ((e.tick + lag < s.wake) × ((found measured_of s.blocks).junk ≡ true))
  again : (e : Entry) → In e s.kept → live s.now lag e.tick ≡ true → ((found measured_of s.blocks).junk ≡ true) ⊎ In e (unpacked (found measured_of s.blocks).payload)

-- one who waits for longer is not live once the side is awake
asleep : {X : Type 0} (now lag wake tick : ℕ) → wake ≤ now → live now lag tick ≡ true → tick + lag < wake → X
asleep now lag wake tick a l h = let k = live-le now lag tick l in absurd (omega arith)

-- a thing was recorded
did_so : (lag d : ℕ) (done : List Entry) (s : State) (g : Good) → Inv lag done s → s.wake ≤ s.now
    → length (live_of s.now lag s.kept) < 8192 → AllByRecursion Fits (recorded s.now lag d s.kept)
    → next_of s.halves (length (packed (recorded s.now lag d s.kept))) ≡ Some g
    → Inv lag (record { digest = d; tick = s.now } ∷ done) record {
      halves = wrote s.halves g;
      blocks = cut_by g.which (half g.half.turn (packed (recorded s.now lag d s.kept))) New s.blocks;
      kept = recorded s.now lag d s.kept;
      now = s.now;
      wake = s.wake;
    }
did_so lag d done s g i awake room fits e =
    let es = recorded s.now lag d s.kept in
    let p = packed es in
    let new : Entry = record { digest = d; tick = s.now } in
    let few : length es ≤ 8192 = omega (arith, length_push (live_of s.now lag s.kept) new) in
    let b' = cut_by g.which (half g.half.turn p) New s.blocks in
    let w = writing measured_of steady s.halves s.blocks i.known p (fitting es few) g e in
    let back : unpacked p ≡ es = unpacked-packed es few fits in
    record {
      known = w.2;
      counts = ap (λ (n : Option Good). unpacked (payload_of n b')) (sym w.0) ∙ ap unpacked w.1 ∙ back;
      past = λ x q. elim q [ inl r ↦ (let t : s.now ≡ x.tick = ap (λ (y : Entry). y.tick) r in omega arith) | inr r ↦ i.past x r ];
      some = λ x q. refl;
      safe = λ x q l. elim q [
        | inl r ↦ (let P : Entry → Type 0 = λ y. In y es in inl (subst P r (in-last new (live_of s.now lag s.kept))))
        | inr r ↦ elim (i.safe x r l) [
          | inl k ↦ inl (in-recorded x s.now lag d s.kept k l)
          | inr k ↦ asleep s.now lag s.wake x.tick awake l k.0
        ]
      ];
      again = λ x q l. let P : List Entry → Type 0 = λ y. In x y in inr (subst P (sym (ap unpacked w.1 ∙ back)) q);
    }

block-put : (w : Which) (x : List ℕ) (b : Blocks) → block w (put w x b) ≡ x
block-put First x b = refl
block-put Second x b = refl

-- what a crash finds after a write that was not told as done
again-after : (lag d : ℕ) (done : List Entry) (s : State) (g : Good) → Inv lag done s
    → length (live_of s.now lag s.kept) < 8192 → AllByRecursion Fits (recorded s.now lag d s.kept)
    → next_of s.halves (length (packed (recorded s.now lag d s.kept))) ≡ Some g
    → (c : Cut) → Junks measured_of c
    → (x : Entry) → In x s.kept → live s.now lag x.tick ≡ true
    → ((found measured_of (cut_by g.which (half g.half.turn (packed (recorded s.now lag d s.kept))) c s.blocks)).junk ≡ true)
    ⊎ In x (unpacked (found measured_of (cut_by g.which (half g.half.turn (packed (recorded s.now lag d s.kept))) c s.blocks)).payload)
again-after lag d done s g i room fits e Old j x q l = i.again x q l
again-after lag d done s g i room fits e New j x q l =
    let es = recorded s.now lag d s.kept in
    let few : length es ≤ 8192 = omega (arith, length_push (live_of s.now lag s.kept) record { digest = d; tick = s.now }) in
    let w = writing measured_of steady s.halves s.blocks i.known (packed es) (fitting es few) g e in
    let P : List Entry → Type 0 = λ y. In x y in
    inr (subst P (sym (ap unpacked w.1 ∙ unpacked-packed es few fits)) (in-recorded x s.now lag d s.kept q l))
again-after lag d done s g i room fits e (Junk y) j x q l =
    inl (telling measured_of (put g.which y s.blocks) g.which (ap (decoded measured_of) (block-put g.which y s.blocks) ∙ j))

-- a thing was not recorded
did-not-so : (lag d : ℕ) (done : List Entry) (s : State) (g : Good) (b' : Blocks) → Inv lag done s → s.wake ≤ s.now
    → length (live_of s.now lag s.kept) < 8192 → AllByRecursion Fits (recorded s.now lag d s.kept)
    → next_of s.halves (length (packed (recorded s.now lag d s.kept))) ≡ Some g
    → block (other g.which) b' ≡ block (other g.which) s.blocks
    → Left measured_of g.which (half g.half.turn (packed (recorded s.now lag d s.kept))) s.blocks false b'
    → Inv lag done record { halves = s.halves; blocks = b'; kept = s.kept; now = s.now; wake = s.wake }
did-not-so lag d done s g b' i awake room fits e same (c, (j, is)) =
    let f = failing measured_of s.halves s.blocks b' i.known (length (packed (recorded s.now lag d s.kept))) g e same in
    record {
      known = f.0;
      counts = ap unpacked f.1 ∙ i.counts;
      past = i.past;
      some = i.some;
      safe = λ x q l. elim (i.safe x q l) [ inl k ↦ inl k | inr k ↦ asleep s.now lag s.wake x.tick awake l k.0 ];
      again = λ x q l.
          let P : Blocks → Type 0 = λ y. ((found measured_of y).junk ≡ true) ⊎ In x (unpacked (found measured_of y).payload) in
          subst P (sym is) (again-after lag d done s g i room fits e c j x q l);
    }

-- a recording, told as done or not
record-so : (lag d : ℕ) (done : List Entry) (s : State) (h' : Halves) (b' : Blocks) → Inv lag done s → s.wake ≤ s.now
    → length (live_of s.now lag s.kept) < 8192 → AllByRecursion Fits (recorded s.now lag d s.kept)
    → (o : Option Good) → next_of s.halves (length (packed (recorded s.now lag d s.kept))) ≡ o
    → Told o s.halves s.blocks (packed (recorded s.now lag d s.kept)) true h' b'
    → Inv lag (record { digest = d; tick = s.now } ∷ done) record { halves = h'; blocks = b'; kept = recorded s.now lag d s.kept; now = s.now; wake = s.wake }
record-so lag d done s h' b' i awake room fits None e t = let z : ◌≡◌ {A = ℕ} 0 1 = cc t.0 in absurd (omega arith)
record-so lag d done s h' b' i awake room fits (Some g) e t =
    let es = recorded s.now lag d s.kept in
    let P : Halves → Type 0 = λ h. Inv lag (record { digest = d; tick = s.now } ∷ done) record { halves = h; blocks = b'; kept = es; now = s.now; wake = s.wake } in
    let Q : Blocks → Type 0 = λ b. Inv lag (record { digest = d; tick = s.now } ∷ done) record { halves = wrote s.halves g; blocks = b; kept = es; now = s.now; wake = s.wake } in
    subst P (sym t.1) (subst Q (sym t.0) (did_so lag d done s g i awake room fits e))

fail-so : (lag d : ℕ) (done : List Entry) (s : State) (h' : Halves) (b' : Blocks) → Inv lag done s → s.wake ≤ s.now
    → length (live_of s.now lag s.kept) < 8192 → AllByRecursion Fits (recorded s.now lag d s.kept)
    → (o : Option Good) → next_of s.halves (length (packed (recorded s.now lag d s.kept))) ≡ o
    → Told o s.halves s.blocks (packed (recorded s.now lag d s.kept)) false h' b'
    → LeftAt o (packed (recorded s.now lag d s.kept)) s.blocks false b'
    → Inv lag done record { halves = h'; blocks = b'; kept = s.kept; now = s.now; wake = s.wake }
fail-so lag d done s h' b' i awake room fits None e t l =
    let P : Halves → Type 0 = λ h. Inv lag done record { halves = h; blocks = b'; kept = s.kept; now = s.now; wake = s.wake } in
    let Q : Blocks → Type 0 = λ b. Inv lag done record { halves = s.halves; blocks = b; kept = s.kept; now = s.now; wake = s.wake } in
    subst P (sym t.1) (subst Q (sym t.2) i)
fail-so lag d done s h' b' i awake room fits (Some g) e t l =
    let P : Halves → Type 0 = λ h. Inv lag done record { halves = h; blocks = b'; kept = s.kept; now = s.now; wake = s.wake } in
    subst P (sym t.1) (did-not-so lag d done s g b' i awake room fits e t.0 l)

tick-so : (lag to : ℕ) (done : List Entry) (s : State) → Inv lag done s → s.now ≤ to
    → Inv lag done record { halves = s.halves; blocks = s.blocks; kept = s.kept; now = to; wake = s.wake }
tick-so lag to done s i on = record {
  known = i.known;
  counts = i.counts;
  past = λ x q. let h = i.past x q in omega arith;
  some = i.some;
  safe = λ x q l. i.safe x q (live-before s.now to lag x.tick on l);
  again = λ x q l. i.again x q (live-before s.now to lag x.tick on l);
}

-- what is known of things done, where a start begins
record Before (lag : ℕ) (done : List Entry) (b : Blocks) (at : ℕ) : Type 0 where
  past : (e : Entry) → In e done → e.tick ≤ at
  some : (e : Entry) → In e done → is_some (standing measured_of b).newest ≡ true
  safe : (e : Entry) → In e done → live at lag e.tick ≡ true → ((found measured_of b).junk ≡ true) ⊎ In e (unpacked (found measured_of b).payload)

same-state : (h h' : Halves) (b b' : Blocks) (k k' : List Entry) (n w w' : ℕ) → h ≡ h' → b ≡ b' → k ≡ k' → w ≡ w'
    → ◌≡◌ {A = State} record { halves = h; blocks = b; kept = k; now = n; wake = w } record { halves = h'; blocks = b'; kept = k'; now = n; wake = w' }
same-state h h' b b' k k' n w w' p q r t = cc

-- a start that reads what stands there
read-so : (lag at : ℕ) (done : List Entry) (b : Blocks) → Before lag done b at
    → Inv lag done record {
      halves = standing measured_of b;
      blocks = b;
      kept = unpacked (payload_of (standing measured_of b).newest b);
      now = at;
      wake = cond (standing measured_of b).junk (at + lag + 1) 0;
    }
read-so lag at done b f = record {
  known = starting measured_of b;
  counts = refl;
  past = f.past;
  some = f.some;
  safe = λ x q l. elim (f.safe x q l) [
    | inl j ↦ (let h = f.past x q in let P : Bool → Type 0 = λ v. x.tick + lag < cond v (at + lag + 1) 0 in inr (subst P (sym j) (omega arith), j))
    | inr k ↦ inl k
  ];
  again = λ x q l. inr q;
}

-- nothing stands on a new device
none-newest : (b : Blocks) → decoded measured_of b.first ≡ None → decoded measured_of b.second ≡ None → (standing measured_of b).newest ≡ None
none-newest b e f =
    ap (λ (o : Option Half). (known_of 0 o (decoded measured_of b.second)).newest) e ∙ ap (λ (o : Option Half). (known_of 0 None o).newest) f

-- a start, on a new device or on any other
start-so : (lag at : ℕ) (done : List Entry) (b : Blocks) (h' : Halves) (b' : Blocks) (k' : List Entry) (j : Bool) (x' : List ℕ)
    → Before lag done b at → k' ≡ unpacked (payload_of h'.newest b') → j ≡ h'.junk
    → (v : Bool) → makes 196610 b nothing ≡ v → (st : Starts v measured_of b nothing h' b' x') → LeftMaking v b h' b' x' st
    → Inv lag done record { halves = h'; blocks = b'; kept = k'; now = at; wake = cond j (at + lag + 1) 0 }
start-so lag at done b h' b' k' j x' f kept junk true e st l =
    let z = new-junk measured_of b e in
    let n = none-newest b z.0 z.1 in
    let no : (x : Entry) → In x done → ◌≡◌ {A = ℕ} 0 1 = λ x q. let y : is_some (standing measured_of b).newest ≡ true = f.some x q in let w : is_some {T = Good} None ≡ true = ap is_some (sym n) ∙ y in cc in
    let m = make-so st.one st.two b st.between b' z.1 st.first st.second l in
    let P : Halves → Type 0 = λ h. Knows measured_of h b' in
    let none : k' ≡ [] = kept ∙ ap (λ (h : Halves). unpacked (payload_of h.newest b')) st.known ∙ m.1 in
    record {
      known = subst P (sym st.known) m.0;
      counts = sym kept;
      past = λ x q. let y = no x q in absurd (omega arith);
      some = λ x q. let y = no x q in absurd (omega arith);
      safe = λ x q l. let y = no x q in absurd (omega arith);
      again = λ x q l. let Q : List Entry → Type 0 = λ es. In x es in elim (subst Q none q) [ ];
    }
start-so lag at done b h' b' k' j x' f kept junk false e st l =
    let E : State = record {
      halves = standing measured_of b;
      blocks = b;
      kept = unpacked (payload_of (standing measured_of b).newest b);
      now = at;
      wake = cond (standing measured_of b).junk (at + lag + 1) 0;
    } in
    let k : k' ≡ unpacked (payload_of (standing measured_of b).newest b) = kept ∙ ap (λ (h : Halves). unpacked (payload_of h.newest b')) st.0 ∙ ap (λ (y : Blocks). unpacked (payload_of (standing measured_of b).newest y)) st.1 in
    let w : cond j (at + lag + 1) 0 ≡ cond (standing measured_of b).junk (at + lag + 1) 0 = ap (λ (v : Bool). cond v (at + lag + 1) 0) (junk ∙ ap (λ (h : Halves). h.junk) st.0) in
    let same : ◌≡◌ {A = State} record { halves = h'; blocks = b'; kept = k'; now = at; wake = cond j (at + lag + 1) 0 } E = same-state _ _ _ _ _ _ at _ _ st.0 st.1 k w in
    let P : State → Type 0 = λ y. Inv lag done y in
    subst P (sym same) (read-so lag at done b f)

-- where a good half stands, a start finds one
some_known : (o q : Option Half) (w : Which) (k : Half) → elim w [ First ↦ o | Second ↦ q ] ≡ Some k → is_some (known_of 0 o q).newest ≡ true
some_known (Some h) (Some x) w k e = refl
some_known (Some h) None w k e = refl
some_known None (Some x) w k e = refl
some_known None None First k e = let z : ◌≡◌ {A = ℕ} 0 1 = cc in absurd (omega arith)
some_known None None Second k e = let z : ◌≡◌ {A = ℕ} 0 1 = cc in absurd (omega arith)

which-block : (w : Which) (b : Blocks) → elim w [ First ↦ decoded measured_of b.first | Second ↦ decoded measured_of b.second ] ≡ decoded measured_of (block w b)
which-block First b = refl
which-block Second b = refl

stands-there : (n : Option Good) (l : ℕ) (b : Blocks) → KnowsAt measured_of n l b → is_some n ≡ true → is_some (standing measured_of b).newest ≡ true
stands-there None l b k e = let z : ◌≡◌ {A = ℕ} 0 1 = cc in absurd (omega arith)
stands-there (Some g) l b k e =
    some_known (decoded measured_of b.first) (decoded measured_of b.second) g.which g.half (which-block g.which b ∙ k)

-- a crash: what was done is found again, or junk
before-so : (lag at : ℕ) (done : List Entry) (s : State) → Inv lag done s → s.now ≤ at → Before lag done s.blocks at
before-so lag at done s i on = record {
  past = λ x q. let h = i.past x q in omega arith;
  some = λ x q. stands-there s.halves.newest s.halves.last s.blocks i.known (i.some x q);
  safe = λ x q l.
      let l' = live-before s.now at lag x.tick on l in
      elim (i.safe x q l') [ inl k ↦ i.again x k l' | inr k ↦ inl k.1 ];
}

nobody : (lag at : ℕ) (b : Blocks) → Before lag [] b at
nobody lag at b = record { past = λ x q. elim q [ ]; some = λ x q. elim q [ ]; safe = λ x q l. elim q [ ] }

starting-so : (lag at : ℕ) (done : List Entry) (b : Blocks) (s : State) → Before lag done b at → Starting lag b at s → Inv lag done s
starting-so lag at done b s f st =
    let P : State → Type 0 = λ y. Inv lag done y in
    subst P (sym st.is) (start-so lag at done b s.halves s.blocks s.kept st.junk st.begun.left f st.begun.kept st.begun.junk (makes 196610 b nothing) refl st.begun.starts st.left)

-- each run keeps it
holds : (lag : ℕ) (done : List Entry) (s : State) → Run lag done s → Inv lag done s
holds lag _ s (first b at st) = starting-so lag at [] b s (nobody lag at b) st
holds lag _ s' (did {done} {s} d run r) =
    let P : State → Type 0 = λ y. Inv lag (record { digest = d; tick = s.now } ∷ done) y in
    subst P (sym r.is) (record-so lag d done s s'.halves s'.blocks (holds lag done s run) r.awake r.room r.fits _ refl r.written)
holds lag _ s' (did_not {done} {s} d run r) =
    let P : State → Type 0 = λ y. Inv lag done y in
    subst P (sym r.is) (fail-so lag d done s s'.halves s'.blocks (holds lag done s run) r.awake r.room r.fits _ refl r.written r.left)
holds lag _ s' (ticked {done} {s} to run t) =
    let P : State → Type 0 = λ y. Inv lag done y in
    subst P (sym t.is) (tick-so lag to done s (holds lag done s run) t.on)
holds lag _ s' (fell {done} {s} at run f) =
    starting-so lag at done s.blocks s' (before-so lag at done s (holds lag done s run) f.on) f.starts

pub remembered : Remembered
remembered lag done s run e i asked before late =
    let l = live-from-lately s.now lag asked e.tick before late in
    elim ((holds lag done s run).safe e i l) [
      | inl k ↦ inl (in-stands e (live_of s.now lag s.kept) (in-live e s.now lag s.kept k l))
      | inr k ↦ (let h = live-le s.now lag e.tick l in let w = k.0 in inr (omega arith))
    ]
