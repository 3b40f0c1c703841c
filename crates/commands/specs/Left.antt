-- What a cut write leaves. Assumes nothing.
use Rattle.held.specs.declared.cut.Cut.{Cut}

-- what stood there before, what was written, or junk
abbrev pub Left : Type 0
Left = Cut (Unit {0})
