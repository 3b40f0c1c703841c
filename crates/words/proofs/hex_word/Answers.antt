use Rattle.std.proofs.Common.{◌≡◌, List, ℕ, Bool, true, false, is_some, Some, None, Bor, sym, ap, ◌∙◌}
use Rattle.std.specs.Bool.{then_some}
use Rattle.words.specs.Text.{hex_of, bytes_of}
use Rattle.words.proofs.Scan.{hex-octets, hex-none, bytes-octets}
use Rattle.words.proofs.hex_word.Goals as goal

-- a word that is kept where it gives bytes
kept : (w : Bor (List ℕ)) (b : Bool) → b ≡ is_some (hex_of w.now) → elim (then_some b w) as (λ _. Type 0) [ None ↦ hex_of w.now ≡ None | Some v ↦ hex_of w.now ≡ Some (bytes_of v.now) ]
kept w true e = hex-octets w.now (sym e) ∙ ap (λ (bytes : List ℕ). Some bytes) (sym (bytes-octets w.now (sym e)))
kept w false e = hex-none w.now (sym e)

pub returns : goal.returns
returns c = rw c.then_some.ensures (kept c.args.word c.is_hex.result c.is_hex.ensures)
