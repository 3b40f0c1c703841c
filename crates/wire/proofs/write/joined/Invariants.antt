use Rattle.std.proofs.Common.{◌≡◌, ◌++◌, take, vec_items}
use Rattle.std.specs.List.{flat_map}
use Rattle.wire.specs.Word.{lock_bytes}
use Rattle.wire.proofs.write.joined.Given as goal

-- what is written is the front and the locks so far
abbrev pub invariant-loop-lock : goal.invariant-loop-lock
invariant-loop-lock l = vec_items l.out ≡ l.front ++ flat_map (λ x. lock_bytes x.now) (take l.lock-index l.locks)
