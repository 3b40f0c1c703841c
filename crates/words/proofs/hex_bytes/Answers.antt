use Rattle.std.proofs.Common.{sym, ◌∙◌, rules}
use Rattle.words.specs.Text.{octets}
use Rattle.words.proofs.Scan.{bytes-octets, bytes-none}
use Rattle.words.proofs.hex_bytes.Goals as goal

pub returns-then-not-is_hex : goal.returns-then-not-is_hex
returns-then-not-is_hex c = c.new.ensures.items ∙ sym (bytes-none c.args.word.now (sym c.if-not-is_hex.ensures))

pub returns : goal.returns
unfolding octets
returns c =
    let same = bytes-octets c.args.word.now (sym c.if-not-is_hex.ensures) in
    search rules
