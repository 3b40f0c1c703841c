use Rattle.box_side.proofs.open.open_first.Given as goal
use Rattle.box_side.specs.Box.{opens_first}
use Rattle.locked.specs.Locked.{ours}
use Rattle.seal.specs.Kind.{number_of}
use Rattle.std.proofs.Common.{◌≡◌, drop}

-- the word is as it was, and what opens it is among the keys to come
abbrev pub invariant-loop-place : goal.invariant-loop-place
invariant-loop-place l =
    (l.word ≡ l.initial.word)
    × (opens_first ours (number_of l.kind) l.place (drop l.place l.keys) l.word
    ≡ opens_first ours (number_of l.kind) 0 l.keys l.initial.word)
