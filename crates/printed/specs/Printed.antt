-- Text written word by word. Assumes nothing.
--
-- shown t       the bytes so far
use Rattle.std.specs.Prelude.{ℕ, List, vec_items}
use Rattle.printed.specs.declared.text.Text.{Text}

abbrev pub shown : Text → List ℕ
shown t = vec_items t.bytes
