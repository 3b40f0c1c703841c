use Rattle.std.proofs.Common.{◌≡◌, ℕ, ◌+◌, ◌%◌, ◌^◌, ◌<◌, ◌≤◌, length, get_or}
use Rattle.hash.proofs.block.compress.Given as goal

-- the sums at the places below i stand, and the rest is as it was
abbrev pub invariant-loop-i : goal.invariant-loop-i
invariant-loop-i l = record {
  long : length l.state ≡ 8;
  done : (k : ℕ) → k < l.i → get_or l.state k 0 ≡ (get_or l.worked k 0 + get_or l.initial.state k 0) % 2 ^ 32;
  left : (k : ℕ) → l.i ≤ k → get_or l.state k 0 ≡ get_or l.initial.state k 0;
}
