-- What a verdict means, in the row's own words: its lines and deeds, and the keys stolen by then. Assumes nothing.
--
-- IsLine k w ls     w is the k-th of these lines, counted from the oldest
-- Means v xs d r    what it means that the judge v says r of the deed d after these hearings
-- NamedOnce vs      no two of these verdicts name one line
use Rattle.std.specs.Prelude.{◌≡◌, ℕ, ◌+◌, ◌<◌, Bool, true, ◌||◌, List, [], ◌∷◌, ◌++◌, reverse, length, ◌≢◌}
use mathlib.Core.List.{Memᴰ}
use Rattle.judge_rules.specs.Judge.{View, verdict}
use Rattle.judge_rules.specs.declared.record.Verdict.{Verdict}
use Rattle.judge_rules.specs.declared.record.Verdict.TheVariants.{Asked, NotAsked, Stolen}
use Rattle.rows.specs.Name.{Naming}
use Rattle.rows.specs.Setting.{Setting}
use Rattle.rows.specs.Row.{Deed, For, SafeDeed, Wanted}
use Rattle.tickets.specs.State.{is_in}
use Rattle.judge.specs.Hearing.{Begins, FirstNamed, Hearing, Orderly, claim, deed, heard_lines, sat, verdicts}

pub record IsLine (k : ℕ) (w : Wanted) (ls : List Wanted) : Type 0 where
  pub before : List Wanted
  pub after : List Wanted
  pub split : reverse ls ≡ before ++ (w ∷ after)
  pub count : k ≡ length before + 1

-- one of these verdicts names that line
abbrev pub Names : ℕ → List Verdict → Type 0
Names k vs = (t : ℕ) × Memᴰ (Asked k t) vs

abbrev pub NamedOnce : List Verdict → Type 0
NamedOnce [] = Unit {0}
NamedOnce (x ∷ xs) = ((k t : ℕ) → x ≡ Asked k t → Names k xs → ⊥) × NamedOnce xs

module _ (c : Setting) (n : Naming c.own) where
  -- that line accounts for the deed, and every older one that could was spent by a deed before
  pub record AskedBy (v : View) (xs : List Hearing) (d : Deed) (k t : ℕ) : Type 0 where
    pub line : Wanted
    pub counted : IsLine k line (heard_lines xs)
    pub tick : line.at ≡ t
    pub asked : For c n d line
    pub oldest : (j : ℕ) (u : Wanted) → IsLine j u (heard_lines xs) → j < k → For c n d u → Names j (verdicts v xs)

  -- these of the three own keys had been stolen, and one at least
  pub record RobbedOf (d : Deed) (reader service house : Bool) : Type 0 where
    pub of_reader : d.reader < length c.own → reader ≡ is_in (n.key_of d.reader) d.stolen
    pub of_service : service ≡ is_in (n.key_of d.service) d.stolen
    pub of_house : house ≡ is_in (n.key_of 0) d.stolen
    pub one : (reader || (service || house)) ≡ true

  -- asked: a line accounts for it; else every line that could was spent by a deed before;
  -- stolen: these keys had been; not asked: the deed is safe
  pub record Means (v : View) (xs : List Hearing) (d : Deed) (r : Verdict) : Type 0 where
    pub asked : (k t : ℕ) → r ≡ Asked k t → AskedBy v xs d k t
    pub spent : ((k t : ℕ) → r ≢ Asked k t) → (k : ℕ) (w : Wanted) → IsLine k w (heard_lines xs) → For c n d w → Names k (verdicts v xs)
    pub stolen : (x y z : Bool) → r ≡ Stolen x y z → RobbedOf d x y z
    pub not_asked : r ≡ NotAsked → FirstNamed c n → SafeDeed c n d

  -- Of each deed that is heard in order the verdict means what it says.
  abbrev pub Meaning : Type 0
  Meaning = (v : View) → Begins c n v → (xs : List Hearing) (d : Deed) → Orderly c n v (deed d ∷ xs) → Means v xs d (verdict (sat v xs) (claim d))

-- One line accounts for one deed.
abbrev pub LinesOnce : Type 0
LinesOnce = (v : View) (xs : List Hearing) → NamedOnce (verdicts v xs)
