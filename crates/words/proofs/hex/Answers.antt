use Rattle.std.proofs.Common.{ℕ, ◌++◌, length, drop, Some, sym, ap, ◌∙◌, arith}
use Rattle.std.specs.Option.{option_map}
use Rattle.words.specs.Text.{octets, put_front}
use Rattle.words.proofs.Scan.{length-octets, hex-octets, hex-none, fitting-none, fitting-long, fitting-some}
use Rattle.words.proofs.hex.Goals as goal

pub returns-then-not-is_hex : goal.returns-then-not-is_hex
returns-then-not-is_hex c =
    let fit = fitting-none (length c.args.out.now) c.args.word.now (hex-none c.args.word.now (sym c.if-not-is_hex.ensures)) in
    record { count = sym (ap (option_map length) fit); after = sym (ap (put_front c.args.out.now) fit) }

pub returns-then-n-out : goal.returns-then-n-out
returns-then-n-out c =
    let fit = fitting-long (length c.args.out.now) c.args.word.now (octets c.args.word.now) (hex-octets c.args.word.now (sym c.if-not-is_hex.ensures)) (omega (arith, length-octets c.args.word.now)) in
    record { count = sym (ap (option_map length) fit); after = sym (ap (put_front c.args.out.now) fit) }

pub returns : goal.returns
returns c =
    let fit = fitting-some (length c.args.out.now) c.args.word.now (octets c.args.word.now) (hex-octets c.args.word.now (sym c.if-not-is_hex.ensures)) (omega (arith, length-octets c.args.word.now)) in
    let half = sym (length-octets c.args.word.now) in
    record {
      count = ap (λ (k : ℕ). Some k) half ∙ sym (ap (option_map length) fit);
      after = c.put_octets.ensures ∙ ap (λ (k : ℕ). octets c.args.word.now ++ drop k c.args.out.now) half ∙ sym (ap (put_front c.args.out.now) fit);
    }
