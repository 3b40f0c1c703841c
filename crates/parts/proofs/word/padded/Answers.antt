use Rattle.std.proofs.Common.{◌++◌, ap₂, ℕ, List, length}
use Rattle.std.proofs.lemmas.List.{drop-replicate}
use Rattle.parts.proofs.word.padded.Goals as goal

pub returns : goal.returns
returns c = ap₂ (λ (front behind : List ℕ). front ++ behind) c.copy_from_slice.ensures.after (drop-replicate {X = ℕ} (length c.args.words.now) 1024 0)
