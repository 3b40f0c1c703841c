use Rattle.std.proofs.Common.{length}
use Rattle.contents.proofs.field.+fill.Given as goal

abbrev pub decreases-fill : goal.decreases-fill
decreases-fill l = length l.fields.now
