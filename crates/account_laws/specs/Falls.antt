-- What lasts over changes and falls. Assumes nothing: what a write that did not succeed leaves is the hypothesis Fair,
-- and that junk has no sum that fits is a part of it. Vocabulary:
--   Risen a b     b is a, or what a became: states only rise, and a key stays
--   Rise xs ys    each account of xs has risen to that of ys
--   Leaves ..     what a write that did not succeed left in its block: the old, the new, or junk
--   Fair s t k    so it was at the call that led from s to t
--   Run s t       any row of calls and falls leads from s to t
--   Rising, Staying, Answering, Starting   the promises
--   Happening, Falling                     every outcome of a write, and a fall, can come: no promise is empty
-- A call is an opening, a closing or any other change, with whatever answer; it is known by what is promised of it.
-- A write that was cut is a call that was not answered, and then a fall. The proofs stand in proofs/Falls.antt.
use Rattle.std.specs.Prelude.{◌≡◌, ℕ, Bool, true, false, List, length, Some, None, Option, Ok, Err, slice_set}
use Rattle.accounts.specs.Entry.{Sized}
use Rattle.accounts.specs.File.{Begins, Kept, State, goes}
use Rattle.accounts.specs.Payload.{measure, payload}
use Rattle.halves.specs.Blocks.{Blocks, block}
use Rattle.halves.specs.Half.{half}
use Rattle.halves.specs.Laws.{Cut, Junks, cut_by}
use Rattle.halves.specs.declared.halves.Good.{Good}
use Rattle.house_rules.specs.Account.{account_of, closed}
use Rattle.house_rules.specs.Change.{Answer, shut, shut_after}
use Rattle.parts.specs.declared.account.Account.{Account}
use Rattle.parts.specs.declared.account.Account.TheVariants.{Absent, Closed, Open}
use Rattle.std.proofs.Common.{inl, inr}

-- b is a, or what a became
abbrev pub Risen : Account → Account → Type 0
Risen Absent b = Unit {0}
Risen (Open k) Absent = ⊥
Risen (Open k) (Open l) = k ≡ l
Risen (Open k) (Closed l) = k ≡ l
Risen (Closed k) Absent = ⊥
Risen (Closed k) (Open l) = ⊥
Risen (Closed k) (Closed l) = k ≡ l

-- each account has risen
abbrev pub Rise : List Account → List Account → Type 0
Rise xs ys = (n : ℕ) → Risen (account_of xs n) (account_of ys n)

-- what a write of these accounts left where it did not succeed: the old, the new, or junk that has no sum that fits;
-- the block keeps its length
abbrev pub Leaves : Option Good → List Account → Bool → Blocks → Blocks → Type 0
Leaves None xs r b c = Unit {0}
Leaves (Some g) xs true b c = Unit {0}
Leaves (Some g) xs false b c =
    (x : Cut) × Junks measure x × (c ≡ cut_by g.which (half g.half.turn (payload xs)) x b)
    × (length (block g.which c) ≡ length (block g.which b))

-- so it was at this call
abbrev pub Fair : (s t : State) → Kept s t → Type 0
Fair s t (inl e) = Unit {0}
Fair s t (inr k) = Leaves (goes s k.0 k.1) (slice_set s.accounts k.0 k.1) k.2 s.blocks t.blocks

-- a row of calls and falls, each known by what is promised of it
pub data Run : State → State → Type 0 where
  rests : (s : State) → Run s s
  calls : (s t u : State) (k : Kept s t) → Fair s t k → Run t u → Run s u
  falls : (s t u : State) (c : Blocks) → Begins s.blocks (Some t) c → Run t u → Run s u

-- from any start on, states only rise, and keys stay, over whatever comes
abbrev pub Rising : Type 0
Rising =
    (b c : Blocks) (s t u : State) → Begins b (Some s) c → Run s t → Run t u → Rise t.accounts u.accounts

-- an account once closed stays closed
abbrev pub Staying : Type 0
Staying =
    (b c : Blocks) (s t u : State) → Begins b (Some s) c → Run s t → Run t u
    → (n : ℕ) → closed t.accounts n ≡ true → closed u.accounts n ≡ true

-- it was answered: done, or nothing had to change
abbrev pub Answered : Answer → Type 0
Answered (Ok d) = Unit {0}
Answered (Err f) = ⊥

-- a closing that was answered is never undone: t is the state before it, v after it, by what is promised of a closing
abbrev pub Answering : Type 0
Answering =
    (b c : Blocks) (s t v u : State) → Begins b (Some s) c → Run s t
    → (n : ℕ) (w : Bool) → Answered (shut t.accounts n w) → v.accounts ≡ shut_after t.accounts n w
    → (k : Kept t v) → Fair t v k → Run v u
    → closed u.accounts n ≡ true

-- the house starts again after a fall, wherever it comes
abbrev pub Starting : Type 0
Starting =
    (b c d : Blocks) (s t : State) (o : Option State) → Begins b (Some s) c → Run s t → Begins t.blocks o d
    → (u : State) × (o ≡ Some u)

-- a write that goes somewhere can fail, and leave any of the three
abbrev pub Happening : Type 0
Happening =
    (s : State) (n : ℕ) (a : Account) (g : Good) → Sized a → goes s n a ≡ Some g
    → (x : Cut) → Junks measure x
    → length (block g.which (cut_by g.which (half g.half.turn (payload (slice_set s.accounts n a))) x s.blocks)) ≡ length (block g.which s.blocks)
    → (t : State) × (k : Kept s t) × Fair s t k × (t.blocks ≡ cut_by g.which (half g.half.turn (payload (slice_set s.accounts n a))) x s.blocks)

-- a fall can come at any moment, and leads on
abbrev pub Falling : Type 0
Falling = (b c : Blocks) (s t : State) → Begins b (Some s) c → Run s t → (u : State) × Begins t.blocks (Some u) t.blocks
