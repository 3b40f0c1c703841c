-- What a start finds after writes, whole and cut. Assumes nothing: that junk has no sum that fits is the hypothesis Junks.
-- Vocabulary:
--   Fitting m p          p is a payload
--   Knows m h b          what is known of the halves is so
--   Cut                  what a cut write leaves in its block: the old, the new at its front, or something else
--   cut_by w bs c b       the blocks after a write of bs was cut
--   Junks m c            what else is left has no sum that fits
--   found m b            what a start finds: what is known of the halves, and the payload that counts
--   Starting .. Recovering   the five laws
use Rattle.std.specs.Prelude.{◌≡◌, ℕ, ◌≤◌, Bool, true, not, List, length, is_some, Some, None, Option}
use Rattle.halves.specs.Blocks.{Blocks, block, other, over, put}
use Rattle.halves.specs.Half.{Measure, Steady, decoded, half}
use Rattle.halves.specs.Halves.{next_of, payload_of, standing}
use Rattle.halves.specs.declared.half.Half.{Half}
use Rattle.halves.specs.declared.halves.Good.{Good}
use Rattle.halves.specs.declared.halves.Halves.{Halves}
use Rattle.halves.specs.declared.which.Which.{Which}

-- a payload, with nothing behind it
abbrev pub Fitting : Measure → List ℕ → Type 0
Fitting m p = m p ≡ Some (length p)

-- the newest good half stands there; where none is good, no higher turn than the last stands in the second
abbrev pub KnowsAt : Measure → Option Good → ℕ → Blocks → Type 0
KnowsAt m None l b = (k : Half) → decoded m b.second ≡ Some k → k.turn ≤ l
KnowsAt m (Some g) l b = decoded m (block g.which b) ≡ Some g.half

abbrev pub Knows : Measure → Halves → Blocks → Type 0
Knows m h b = KnowsAt m h.newest h.last b

-- what a cut write leaves in its block
pub data Cut : Type 0 where
  Old : Cut
  New : Cut
  Junk : List ℕ → Cut

-- the blocks then
abbrev pub cut_by : Which → List ℕ → Cut → Blocks → Blocks
cut_by w bs Old b = b
cut_by w bs New b = put w (over bs (block w b)) b
cut_by w bs (Junk x) b = put w x b

-- what is neither the old nor the new has no sum that fits
abbrev pub Junks : Measure → Cut → Type 0
Junks m Old = Unit {0}
Junks m New = Unit {0}
Junks m (Junk x) = decoded m x ≡ None

-- what a start finds: the newest good half, its payload, and whether a half is junk
pub record Found : Type 0 where
  pub newest : Option Good
  pub payload : List ℕ
  pub junk : Bool

abbrev pub found : Measure → Blocks → Found
found m b = record { newest = (standing m b).newest; payload = payload_of (standing m b).newest b; junk = (standing m b).junk }

-- what a start knows is so
abbrev pub Starting : Type 0
Starting = (m : Measure) (b : Blocks) → Knows m (standing m b) b

-- a write that was told as done: a start finds the new payload in the half that was written, and whoever goes on knows it
abbrev pub Writing : Type 0
Writing =
    (m : Measure) → Steady m → (h : Halves) (b : Blocks) → Knows m h b
    → (p : List ℕ) → Fitting m p → (g : Good) → next_of h (length p) ≡ Some g
    → ((found m (cut_by g.which (half g.half.turn p) New b)).newest ≡ Some g)
    × ((found m (cut_by g.which (half g.half.turn p) New b)).payload ≡ p)
    × KnowsAt m (Some g) h.last (cut_by g.which (half g.half.turn p) New b)

-- a write that was not told as done, whatever it left: what is known is still so, and the payload that counts stands
abbrev pub Failing : Type 0
Failing =
    (m : Measure) (h : Halves) (b b' : Blocks) → Knows m h b
    → (n : ℕ) (g : Good) → next_of h n ≡ Some g → block (other g.which) b' ≡ block (other g.which) b
    → Knows m h b' × (payload_of h.newest b' ≡ payload_of h.newest b)

-- junk is told
abbrev pub Telling : Type 0
Telling = (m : Measure) (b : Blocks) (w : Which) → decoded m (block w b) ≡ None → (found m b).junk ≡ true

-- what a start finds after a write that was cut: as before it, the new payload, or the old one and junk
abbrev pub after : Cut → Found → Good → List ℕ → Found
after Old f g p = f
after New f g p = record { newest = Some g; payload = p; junk = not (is_some f.newest) }
after (Junk x) f g p = record { newest = f.newest; payload = f.payload; junk = true }

abbrev pub Recovering : Type 0
Recovering =
    (m : Measure) → Steady m → (b : Blocks) (p : List ℕ) → Fitting m p
    → (g : Good) → next_of (standing m b) (length p) ≡ Some g
    → (c : Cut) → Junks m c → found m (cut_by g.which (half g.half.turn p) c b) ≡ after c (found m b) g p
