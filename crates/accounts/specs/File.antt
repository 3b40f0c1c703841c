-- The accounts file: what a start gives, and what a change leaves. Assumes nothing. Vocabulary:
--   State          what is held, what is known of the halves, and what stands in the blocks
--   whole b        the file has its size
--   begun h b      what the house holds after a start that knows h of the halves; none, if no half is good
--   Begins b o c   what is promised of a start: o is what is held then, c what stands in the blocks
--   rises xs n a   account n of xs may become a: no account has number 0, and states only rise
--   goes s n a     where the half goes that is written when account n becomes a
--   Changes ..     what is promised of a change, by its answer
--   Kept s t       a state, and the same or what a change leaves
use Rattle.std.specs.Prelude.{◌≡◌, ℕ, Bool, false, cond, not, ◌&&◌, ◌⊎◌, List, length, replicate, Some, None, Option, ◌==◌, slice_set}
use Rattle.accounts.specs.Entry.{Sized, above}
use Rattle.accounts.specs.Payload.{accounts_in, measure, payload}
use Rattle.halves.specs.Blocks.{Blocks, Writes}
use Rattle.halves.specs.Half.{half}
use Rattle.halves.specs.Halves.{Starts, is_new, next_of, payload_of, wrote}
use Rattle.halves.specs.declared.halves.Good.{Good}
use Rattle.halves.specs.declared.halves.Halves.{Halves}
use Rattle.house_rules.specs.Account.{account_of}
use Rattle.parts.specs.declared.account.Account.{Account}

-- accounts: held in memory; known: of the halves; blocks: what stands on the device
pub record State : Type 0 where
  pub accounts : List Account
  pub known : Halves
  pub blocks : Blocks

abbrev pub state : List Account → Halves → Blocks → State
state xs h b = record { accounts = xs; known = h; blocks = b }

-- the accounts in a payload of full length
abbrev pub all_in : List ℕ → Option (List Account)
all_in p = cond (length p == 33792) (Some (accounts_in p)) None

-- both blocks have the length of a half
abbrev pub whole : Blocks → Bool
whole b = length b.first == 33816 && length b.second == 33816

-- the accounts in the newest good half, if the file has its size
abbrev pub accounts_on : Halves → Blocks → Option (List Account)
accounts_on h b = cond (whole b) (all_in (payload_of h.newest b)) None

-- what is held then; where no half is good there is no payload, and nothing is held
abbrev pub holding : Option (List Account) → Halves → Blocks → Option State
holding None h b = None
holding (Some xs) h b = Some (state xs h b)

abbrev pub begun : Halves → Blocks → Option State
begun h b = holding (accounts_on h b) h b

-- what is promised of a start: a new file is made with all entries absent, any other is read; what counts is held,
-- and where nothing counts there is no start
pub record Begins (b : Blocks) (o : Option State) (c : Blocks) : Type 0 where
  pub known : Halves
  pub left : List ℕ
  pub starts : Starts (is_new 33792 b) measure b (replicate 33816 0) known c left
  pub holds : o ≡ begun known c

-- account n may become a: an absent one open, an open one closed, with its key
abbrev pub rises : List Account → ℕ → Account → Bool
rises xs n a = not (n == 0) && above (account_of xs n) a

-- where the half goes that is written when account n becomes a: nowhere, if it may not
abbrev pub goes : State → ℕ → Account → Option Good
goes s n a = cond (rises s.accounts n a) (next_of s.known 33792) None

-- a half with all these accounts is written where it goes; what is held and what is known change only if it was written
abbrev pub Tries : Option Good → State → List Account → Bool → State → Type 0
Tries None s xs r t = (r ≡ false) × (t ≡ s)
Tries (Some g) s xs r t =
    Writes g.which (half g.half.turn (payload xs)) s.blocks r t.blocks
    × (t.accounts ≡ cond r xs s.accounts)
    × (t.known ≡ cond r (wrote s.known g) s.known)

abbrev pub Changes : State → ℕ → Account → Bool → State → Type 0
Changes s n a r t = Tries (goes s n a) s (slice_set s.accounts n a) r t

-- the same, or what a change leaves
abbrev pub Kept : State → State → Type 0
Kept s t = (t ≡ s) ⊎ ((n : ℕ) × (a : Account) × (r : Bool) × Sized a × Changes s n a r t)
