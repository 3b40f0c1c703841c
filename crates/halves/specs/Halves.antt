-- Two halves by turns. Assumes nothing. Vocabulary:
--   newer_of h k         the newer of two good halves
--   known_of l o q       what is known of two halves, by what each is
--   standing m b         what is known of the halves on a device
--   next_of h len        where the next payload goes, of so many bytes, and with which turn
--   part_of n x          the payload of n bytes in a block
--   payload_of n b       the payload that counts
--   target h x           where the payload goes that stands in lent bytes
--   wrote h g            what is known once a half was written
--   Tried ..             what is promised of a write
--   is_new n b           a device of zeros alone, of full length
--   Starts ..            what is promised of a start
use Rattle.std.specs.Prelude.{◌≡◌, ℕ, ◌+◌, ◌-◌, ◌^◌, Bool, true, false, cond, not, ◌&&◌, List, [], length, take, drop, is_some, Some, None, Option, ◌==◌, nat_le, nat_lt}
use Rattle.halves.specs.Blocks.{Blocks, Writes, block, other}
use Rattle.halves.specs.Half.{Measure, decoded, half, is_zero, payload_in}
use Rattle.halves.specs.declared.half.Half.{Half}
use Rattle.halves.specs.declared.halves.Good.{Good}
use Rattle.halves.specs.declared.halves.Halves.{Halves}
use Rattle.halves.specs.declared.which.Which.{Which}
use Rattle.halves.specs.declared.which.Which.TheVariants.{First, Second}

-- a half that was read, with its place
abbrev pub good_of : Which → Half → Good
good_of w h = record { which = w; half = h }

-- the one with the higher turn; the first, if they have one turn
abbrev pub newer_of : Half → Half → Good
newer_of h k = cond (nat_lt h.turn k.turn) (good_of Second k) (good_of First h)

-- one that can't be read is junk; where both are, no turn above l stands on the device
abbrev pub known_of : ℕ → Option Half → Option Half → Halves
known_of l (Some h) (Some k) = record { newest = Some (newer_of h k); junk = false; last = l }
known_of l (Some h) None = record { newest = Some (good_of First h); junk = true; last = l }
known_of l None (Some k) = record { newest = Some (good_of Second k); junk = true; last = l }
known_of l None None = record { newest = None; junk = true; last = l }

-- what is known of the halves on a device
abbrev pub standing : Measure → Blocks → Halves
standing m b = known_of 0 (decoded m b.first) (decoded m b.second)

-- the half that is written next: the one that is not the newest good one; the first, if none is good
abbrev pub which_of : Halves → Which
which_of h = elim h.newest [ None ↦ First | Some g ↦ other g.which ]

-- the turn that is followed
abbrev pub last_of : Halves → ℕ
last_of h = elim h.newest [ None ↦ h.last | Some g ↦ g.half.turn ]

-- where the next payload goes, of n bytes; none, if the turn can't be followed
abbrev pub next_of : Halves → ℕ → Option Good
next_of h n = cond (nat_lt (last_of h) (2 ^ 64 - 1)) (Some (good_of (which_of h) record { turn = last_of h + 1; len = n })) None

-- the payload of n bytes in a block
abbrev pub part_of : ℕ → List ℕ → List ℕ
part_of n x = take n (drop 8 x)

-- the payload of the newest good half
abbrev pub payload_of : Option Good → Blocks → List ℕ
payload_of None b = []
payload_of (Some g) b = part_of g.half.len (block g.which b)

-- where the payload goes that stands in lent bytes; none, if they have no room for turn and sum
abbrev pub target : Halves → List ℕ → Option Good
target h x = cond (nat_lt (length x) 24) None (next_of h (length x - 24))

-- what is known once a half was written: of two junk ones the other still is
abbrev pub wrote : Halves → Good → Halves
wrote h g = record { newest = Some g; junk = not (is_some h.newest); last = h.last }

-- what is promised of a write of the payload in the bytes x, by where it goes and by its answer r: what is known
-- changes only if it was written
abbrev pub Tried : Option Good → Halves → Blocks → List ℕ → Bool → Halves → Blocks → List ℕ → Type 0
Tried None h b x r h' b' x' = (r ≡ false) × (h' ≡ h) × (b' ≡ b) × (x' ≡ x)
Tried (Some g) h b x r h' b' x' =
    Writes g.which (half g.half.turn (payload_in x)) b r b'
    × (h' ≡ cond r (wrote h g) h)
    × (x' ≡ half g.half.turn (payload_in x))

-- a block of full length with nothing but zeros
abbrev pub full : ℕ → List ℕ → Bool
full n x = nat_le 24 (length x) && (length x - 24 == n && is_zero x)

-- a device is new if both blocks are so
abbrev pub is_new : ℕ → Blocks → Bool
is_new n b = full n b.first && full n b.second

-- a new device is made, if the lent bytes have room for a half
abbrev pub makes : ℕ → Blocks → List ℕ → Bool
makes n b x = nat_le 24 (length x) && is_new n b

-- a half as it was written, or junk
abbrev pub whether : Bool → ℕ → ℕ → Option Half
whether true t n = Some record { turn = t; len = n }
whether false t n = None

-- what is promised of the making of a new device: the first half is written with turn 1, then the second with turn 2
pub record Makes (b : Blocks) (x : List ℕ) (h : Halves) (b' : Blocks) (x' : List ℕ) : Type 0 where
  pub one : Bool
  pub two : Bool
  pub between : Blocks
  pub first : Writes First (half 1 (payload_in x)) b one between
  pub second : Writes Second (half 2 (payload_in x)) between two b'
  pub known : h ≡ known_of 2 (whether one 1 (length x - 24)) (whether two 2 (length x - 24))
  pub left : x' ≡ half 2 (payload_in x)

-- what is promised of a start: a new device is made, any other is read
abbrev pub Starts : Bool → Measure → Blocks → List ℕ → Halves → Blocks → List ℕ → Type 0
Starts true m b x h b' x' = Makes b x h b' x'
Starts false m b x h b' x' = (h ≡ standing m b) × (b' ≡ b) × (x' ≡ x)
