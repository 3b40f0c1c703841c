-- The promises over rows of bytes, from those over rows of opened contents. Assumes nothing.
use Rattle.std.proofs.Common.{◌≡◌, ℕ, ◌+◌, ◌≤◌, true, List, [], ◌∷◌, ◌++◌, sym, refl, ap, subst}
use Rattle.byte_rows.proofs.Air.{Fronted, gets-all}
use Rattle.byte_rows.proofs.Rows.{EachFits, Part, Same, Tells, part-before, same_row, tells-same}
use Rattle.byte_rows.proofs.Simulates.{C, N}
use Rattle.byte_rows.specs.Premise.{Each, Row, whole_of}
use Rattle.byte_rows.specs.Row.{AskedOnce, Fresh, IsRow, Kept, LoggedIn, Over, SameRow, act_of, acts_of}
use Rattle.byte_rows.specs.Row as row
use Rattle.byte_rows.specs.System.{Basis, Call, run}
use Rattle.byte_rows.specs.Term.{Whole, name_in}
use Rattle.house_rules.specs.Account.{closed}
use Rattle.house_rules.specs.House.{Home}
use Rattle.locked.specs.Locked.{Locks}
use Rattle.rows.proofs.Promises as rows-proofs
use Rattle.rows.specs.Row.{Accounted, Begun, Deed, Given, Taken, Wanted}
use Rattle.rows.specs.Row as rows
use Rattle.rows.specs.Setting.{rules_of}
use Rattle.rows.specs.System.{Act, Possible, System}
use Rattle.rows.specs.System as acts
use Rattle.tickets.specs.State.{Safe}
use Rattle.tickets.specs.Term.{Gets, Term}
use mathlib.Core.List.{Memᴰ}

-- the acts of more calls come before those of the first
pub more-acts : (l : Locks) (c : Basis) (t : ℕ) (fs es : List Call) → (xs : List Act) × (acts_of l c t (fs ++ es) ≡ xs ++ acts_of l c t es)
more-acts l c t [] es = ([], refl)
more-acts l c t (e ∷ fs) es =
    let r = more-acts l c t fs es in
    (act_of l c (run l c t (fs ++ es)) e ∷ r.0, ap (λ (xs : List Act). act_of l c (run l c t (fs ++ es)) e ∷ xs) r.1)

module _ (l : Locks) (c : Basis) (fits : (t : ℕ) (es : List Call) → Row l c t es → EachFits l c (whole_of l c t es) t es) (fronts : (t : ℕ) (es : List Call) → Row l c t es → Fronted l c (whole_of l c t es) (run l c t es).made) where
  pub part-whole : (t : ℕ) (es : List Call) → Part l c (whole_of l c t es) (run l c t es)
  part-whole t es = record { later = []; draws = refl; made = λ m k. k }

  pub row_same : (t : ℕ) (es : List Call) → Row l c t es → Same l c (whole_of l c t es) t es
  row_same t es r = same_row l c (whole_of l c t es) r.draws r.locks (fronts t es r) t es r.each (fits t es r) (part-whole t es)

  row-tells : (t : ℕ) (es : List Call) → Row l c t es → Tells l c (whole_of l c t es) t es
  row-tells t es r = tells-same l c (whole_of l c t es) r.draws r.locks (fronts t es r) t es r.each (fits t es r) (part-whole t es)

  pub asked-once : AskedOnce l c
  asked-once t es r =
      let g = whole_of l c t es in
      let s = row_same t es r in
      let k = row-tells t es r in
      subst (λ (ls : List Wanted). Accounted (C l c g) (N l c g) ls (row.deeds l c t es)) k.lines
      (subst (λ (ds : List Deed). Accounted (C l c g) (N l c g) (rows.lines (C l c g) (N l c g) t (acts_of l c t es)) ds) k.deeds
      (rows-proofs.asked-once (C l c g) (N l c g) t (acts_of l c t es) s.possible))

  pub kept : Kept l c
  kept t es r k mem safe got =
      let g = whole_of l c t es in
      let s = row_same t es r in
      let stolen : (run l c t es).stolen ≡ (acts.run (C l c g) (N l c g) t (acts_of l c t es)).stolen = sym (ap (λ (x : System). x.stolen) s.same) in
      let air : s.air ≡ (acts.run (C l c g) (N l c g) t (acts_of l c t es)).air = sym (ap (λ (x : System). x.air) s.same) in
      rows-proofs.kept (C l c g) (N l c g) t (acts_of l c t es) s.possible k
      (subst (λ (xs : List Given). Memᴰ k xs) (sym (row-tells t es r).keys) mem)
      (subst (λ (st : List ℕ). Safe (rules_of (C l c g) (N l c g)) st k.reader k.service) stolen safe)
      (subst (λ (xs : List Term). Gets xs (name_in l c g k.key)) air (gets-all s.known.gets got))

  pub logged-in : LoggedIn l c
  logged-in t es r k mem house free =
      let g = whole_of l c t es in
      let s = row_same t es r in
      let tells = row-tells t es r in
      let x =
      rows-proofs.logged-in (C l c g) (N l c g) t (acts_of l c t es) s.possible k
      (subst (λ (xs : List Given). Memᴰ k xs) (sym tells.keys) mem) house free
      in
      (x.0, subst (λ (xs : List Begun). Memᴰ x.0 xs) tells.begun x.1, x.2, x.3, x.4, x.5, x.6)

  pub fresh : Fresh l c
  fresh t es r x mem safe =
      let g = whole_of l c t es in
      let s = row_same t es r in
      let tells = row-tells t es r in
      let y =
      rows-proofs.fresh (C l c g) (N l c g) t (acts_of l c t es) s.possible x
      (subst (λ (xs : List Taken). Memᴰ x xs) (sym tells.takens) mem) safe
      in (
        y.0,
        subst (λ (xs : List Given). Memᴰ y.0 xs) tells.keys y.1,
        y.2,
        y.3,
        y.4,
        y.5,
        y.6,
        (y.7.0, subst (λ (xs : List Begun). Memᴰ y.7.0 xs) tells.begun y.7.1, y.7.2, y.7.3, y.7.4),
      )

  each_back : (g : Whole) (t : ℕ) (fs es : List Call) → Each l c g t (fs ++ es) → Each l c g t es
  each_back g t [] es h = h
  each_back g t (e ∷ fs) es h = each_back g t fs es h.1

  fits-back : (g : Whole) (t : ℕ) (fs es : List Call) → EachFits l c g t (fs ++ es) → EachFits l c g t es
  fits-back g t [] es h = h
  fits-back g t (e ∷ fs) es h = fits-back g t fs es h.1

  part-back : (g : Whole) (t : ℕ) (fs es : List Call) → Part l c g (run l c t (fs ++ es)) → Part l c g (run l c t es)
  part-back g t [] es h = h
  part-back g t (e ∷ fs) es h = part-back g t fs es (part-before l c g (run l c t (fs ++ es)) e h)

  pub over : Over l c
  over t es fs r a shut d mem reader free =
      let g = whole_of l c t (fs ++ es) in
      let whole = row_same t (fs ++ es) r in
      let s = same_row l c g r.draws r.locks (fronts t (fs ++ es) r) t es (each_back g t fs es r.each) (fits-back g t fs es (fits t (fs ++ es) r)) (part-back g t fs es (part-whole t (fs ++ es))) in
      let m = more-acts l c t fs es in
      let home : (acts.run (C l c g) (N l c g) t (acts_of l c t es)).home ≡ (run l c t es).home = ap (λ (x : System). x.home) s.same in
      let known : Memᴰ d (rows.deeds (C l c g) (N l c g) t (m.0 ++ acts_of l c t es)) =
      subst (λ (xs : List Act). Memᴰ d (rows.deeds (C l c g) (N l c g) t xs)) m.1 (subst (λ (ds : List Deed). Memᴰ d ds) (sym (row-tells t (fs ++ es) r).deeds) mem)
      in
      let late =
      rows-proofs.over (C l c g) (N l c g) t (acts_of l c t es) m.0
      (subst (λ (xs : List Act). Possible (C l c g) (N l c g) t xs) m.1 whole.possible) a
      (subst (λ (h : Home). closed h.accounts a ≡ true) (sym home) shut) d known reader free
      in
      subst (λ (h : Home). d.at ≤ h.side.now + c.life) home late

  pub is_row : IsRow l c
  is_row t es r =
      let g = whole_of l c t es in
      let s = row_same t es r in
      let tells = row-tells t es r in
      record {
        possible = s.possible;
        home = ap (λ (x : System). x.home) s.same;
        side = λ v. ap (λ (x : System). x.side v) s.same;
        box = λ a. ap (λ (x : System). x.box a) s.same;
        used = ap (λ (x : System). x.used) s.same;
        stolen = ap (λ (x : System). x.stolen) s.same;
        lines = tells.lines;
        deeds = tells.deeds;
        model = rows-proofs.is-run (C l c g) (N l c g) t (acts_of l c t es) s.possible;
      }
