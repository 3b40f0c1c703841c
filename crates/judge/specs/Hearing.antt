-- The judge over a whole row: what he is told act by act, what he says of each deed, and what is promised of it.
-- Newest first, as in the row. Assumes nothing.
--
-- Hearing              what an act is to the judge: a line, a deed, a theft, somebody with an own key, or nothing
-- heard_lines, heard_deeds, thefts   the lines, the deeds and the numbers robbed of these hearings
-- sat v xs             the judge v after these hearings
-- verdicts v xs        what he says of each deed among them
-- hearings c n t es    what the acts of a row are to the judge
-- Begins c v           a judge at the start: he knows the lag, and nothing has happened
-- Knows c v m          he knows the own key of that number
-- Introduced c n v t es   he knows the own keys of those that an act of the row concerns, when it comes
-- FirstNamed c n       the name of an own key is a number that has it
-- Orderly c n v xs     hearings as time brings them to the judge v
use Rattle.std.specs.Prelude.{◌≡◌, ℕ, ◌<◌, ◌≤◌, List, [], ◌∷◌, ◌++◌, map, length, Some}
use mathlib.Core.List.{Memᴰ}
use Rattle.judge_rules.specs.Judge.{Act as Claim, View, line_of, joined, judged, key_of, noted, stole, verdict}
use Rattle.judge_rules.specs.Total.{total_of}
use Rattle.judge_rules.specs.declared.record.Principal.{Principal}
use Rattle.judge_rules.specs.declared.record.Verdict.{Verdict}
use Rattle.judge_rules.specs.declared.record.Verdict.TheVariants.{NotAsked}
use Rattle.rows.specs.Name.{Naming, own_name, own_of}
use Rattle.rows.specs.Setting.{Setting}
use Rattle.rows.specs.System.{Act, Possible, System, run}
use Rattle.rows.specs.System as system
use Rattle.rows.specs.Row.{Accounted, Deed, Wanted, deed_by, line_by}

pub data Hearing : Type 0 where
  nothing : Hearing
  line : (w : Wanted) → Hearing
  deed : (d : Deed) → Hearing
  theft : (m : ℕ) → Hearing
  joins : (p : Principal) → Hearing

abbrev pub line_in : Hearing → List Wanted
line_in nothing = []
line_in (line w) = w ∷ []
line_in (deed d) = []
line_in (theft m) = []
line_in (joins p) = []

abbrev pub deed_in : Hearing → List Deed
deed_in nothing = []
deed_in (line w) = []
deed_in (deed d) = d ∷ []
deed_in (theft m) = []
deed_in (joins p) = []

abbrev pub theft_in : Hearing → List ℕ
theft_in nothing = []
theft_in (line w) = []
theft_in (deed d) = []
theft_in (theft m) = m ∷ []
theft_in (joins p) = []

abbrev pub heard_lines : List Hearing → List Wanted
heard_lines [] = []
heard_lines (x ∷ xs) = line_in x ++ heard_lines xs

abbrev pub heard_deeds : List Hearing → List Deed
heard_deeds [] = []
heard_deeds (x ∷ xs) = deed_in x ++ heard_deeds xs

abbrev pub thefts : List Hearing → List ℕ
thefts [] = []
thefts (x ∷ xs) = theft_in x ++ thefts xs

-- a deed of the row as the judge is told it
abbrev pub claim : Deed → Claim
claim d = record { service = d.service; reader = d.reader; words = d.what; at = d.at }

-- the judge after one hearing more, by the definitions that his contracts cite
abbrev pub hear : Hearing → View → View
hear nothing v = v
hear (line w) v = noted v (line_of w.reader w.service w.what w.at)
hear (deed d) v = judged v (claim d)
hear (theft m) v = stole v m
hear (joins p) v = joined v p

abbrev pub sat : View → List Hearing → View
sat v [] = v
sat v (x ∷ xs) = hear x (sat v xs)

abbrev pub verdict_in : Hearing → View → List Verdict
verdict_in nothing v = []
verdict_in (line w) v = []
verdict_in (deed d) v = verdict v (claim d) ∷ []
verdict_in (theft m) v = []
verdict_in (joins p) v = []

abbrev pub verdicts : View → List Hearing → List Verdict
verdicts v [] = []
verdicts v (x ∷ xs) = verdict_in x (sat v xs) ++ verdicts v xs

-- the first of them, if there is one
abbrev pub of_line : List Wanted → Hearing
of_line [] = nothing
of_line (w ∷ ws) = line w

abbrev pub of_deed : List Deed → Hearing
of_deed [] = nothing
of_deed (d ∷ ds) = deed d

module _ (c : Setting) (n : Naming c.own) where
  -- what an act is to the judge, in the system that it comes to, at a place: lines and deeds as the row has them
  abbrev pub heard_by : Act → System → ℕ → Hearing
  heard_by (system.tells to) s p = nothing
  heard_by (system.hands who bs) s p = nothing
  heard_by (system.steals m) s p = theft m
  heard_by (system.opens m k w) s p = joins (record { number = m; key = k })
  heard_by (system.closes m w) s p = nothing
  heard_by (system.wants a v by w) s p = of_line (line_by c n (system.wants a v by w) s p)
  heard_by (system.logs_in a l) s p = nothing
  heard_by (system.asks_house t q) s p = nothing
  heard_by (system.asks v t q) s p = of_deed (deed_by c n (system.asks v t q) s p)
  heard_by (system.takes a u l) s p = nothing
  heard_by (system.hears who) s p = nothing
  heard_by (system.device who w) s p = nothing
  heard_by (system.crashes who cut) s p = nothing

  abbrev pub hearings : ℕ → List Act → List Hearing
  hearings t [] = []
  hearings t (e ∷ es) = heard_by e (run c n t es) (length es) ∷ hearings t es

  -- a judge at the start
  pub record Begins (v : View) : Type 0 where
    pub lag : v.lag ≡ c.lag
    pub no_lines : v.lines ≡ []
    pub no_thefts : v.stolen ≡ []

  abbrev pub Knows : View → ℕ → Type 0
  Knows v m = key_of m v.own ≡ Some (own_of c.own m)

  -- he knows the keys on which a deed of this service for this reader relies
  pub record KnowsThree (v : View) (service reader : ℕ) : Type 0 where
    pub of_service : Knows v service
    pub of_house : Knows v 0
    pub of_reader : reader < length c.own → Knows v reader

  -- own keys have the names of numbers that have them, as where each is named by the first such number
  pub record FirstNamed : Type 0 where
    pub there : (m : ℕ) → m < length c.own → n.key_of m < length c.own
    pub same : (m : ℕ) → m < length c.own → n.key_of (n.key_of m) ≡ n.key_of m

  -- a line is told at its place, at no lower tick than the reader's lines before it
  pub record LineInOrder (w : Wanted) (xs : List Hearing) : Type 0 where
    pub place : w.place ≡ length xs
    pub time : (u : Wanted) → Memᴰ u (heard_lines xs) → u.reader ≡ w.reader → u.at ≤ w.at

  -- a deed is told at its place, at no lower tick than the service's deeds before it; it carries the thefts before it; its service has an own key
  pub record DeedInOrder (v : View) (d : Deed) (xs : List Hearing) : Type 0 where
    pub place : d.place ≡ length xs
    pub time : (e : Deed) → Memᴰ e (heard_deeds xs) → e.service ≡ d.service → e.at ≤ d.at
    pub stolen : d.stolen ≡ map n.key_of (thefts xs)
    pub there : d.service < length c.own
    pub knows : KnowsThree (sat v xs) d.service d.reader

  -- whoever is robbed has an own key
  pub record TheftInOrder (v : View) (m : ℕ) (xs : List Hearing) : Type 0 where
    pub there : m < length c.own
    pub knows : Knows (sat v xs) m

  abbrev pub InOrder : View → Hearing → List Hearing → Type 0
  InOrder v nothing xs = Unit {0}
  InOrder v (line w) xs = LineInOrder w xs
  InOrder v (deed d) xs = DeedInOrder v d xs
  InOrder v (theft m) xs = TheftInOrder v m xs
  InOrder v (joins p) xs = Unit {0}

  abbrev pub Orderly : View → List Hearing → Type 0
  Orderly v [] = 0 < length c.own
  Orderly v (x ∷ xs) = InOrder v x xs × Orderly v xs

  -- he knows whom an act concerns
  abbrev pub KnownTo : View → Act → Type 0
  KnownTo v (system.tells to) = Unit {0}
  KnownTo v (system.hands who bs) = Unit {0}
  KnownTo v (system.steals m) = Knows v m
  KnownTo v (system.opens m k w) = Unit {0}
  KnownTo v (system.closes m w) = Unit {0}
  KnownTo v (system.wants a s by w) = Unit {0}
  KnownTo v (system.logs_in a l) = Unit {0}
  KnownTo v (system.asks_house t q) = Unit {0}
  KnownTo v (system.asks s t q) = KnowsThree v s t.reader
  KnownTo v (system.takes a u l) = Unit {0}
  KnownTo v (system.hears who) = Unit {0}
  KnownTo v (system.device who w) = Unit {0}
  KnownTo v (system.crashes who cut) = Unit {0}

  abbrev pub Introduced : View → ℕ → List Act → Type 0
  Introduced v t [] = Unit {0}
  Introduced v t (e ∷ es) = KnownTo (sat v (hearings t es)) e × Introduced v t es

  -- Of hearings in order whose deeds are accounted for, the judge never says that a deed was not asked.
  abbrev pub Settled : Type 0
  Settled =
      FirstNamed → (v : View) → Begins v → (xs : List Hearing) → Orderly v xs → Accounted c n (heard_lines xs) (heard_deeds xs)
      → Memᴰ NotAsked (verdicts v xs) → ⊥

  -- In no row that can happen does the judge say of a deed that it was not asked.
  abbrev pub NeverUnasked : Type 0
  NeverUnasked =
      FirstNamed → (v : View) → Begins v → (t : ℕ) (es : List Act) → Possible c n t es → Introduced v t es
      → Memᴰ NotAsked (verdicts v (hearings t es)) → ⊥

  -- So the last count of all is 0.
  abbrev pub NoneUnasked : Type 0
  NoneUnasked =
      FirstNamed → (v : View) → Begins v → (t : ℕ) (es : List Act) → Possible c n t es → Introduced v t es
      → (total_of (verdicts v (hearings t es))).unasked ≡ 0

  -- A judge who knows all own keys from the start knows whom each act concerns.
  abbrev pub KnowingAll : Type 0
  KnowingAll =
      (v : View) → ((m : ℕ) → m < length c.own → Knows v m) → (t : ℕ) (es : List Act) → Possible c n t es → Introduced v t es

  -- Where each own key is named by the first number that has it, its name is such a number.
  abbrev pub NamedFirst : Type 0
  NamedFirst = ((m : ℕ) → m < length c.own → own_name c.own 0 (own_of c.own m).0 ≡ Some (n.key_of m)) → FirstNamed
