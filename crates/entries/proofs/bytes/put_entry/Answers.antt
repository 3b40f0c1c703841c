use Rattle.entries.proofs.Packing.{put-front}
use Rattle.entries.proofs.bytes.put_entry.Goals as goal
use Rattle.entries.specs.Bytes.{entry_bytes}
use Rattle.contents.specs.Field.{bytes_of}
use Rattle.std.proofs.lemmas.List.{append_assoc}
use Rattle.std.proofs.Common.{rules, ◌≡◌, ℕ, ◌+◌, List, ◌++◌, length, take, sym, ap, ◌∙◌, arith}

pub returns : goal.returns
unfolding entry_bytes
returns c =
    let at = c.args.at in
    let o = c.args.out.now in
    let d : c.to_be_bytes.result ≡ bytes_of 16 c.args.entry.digest = search rules in
    let t : c.to_be_bytes-2.result ≡ bytes_of 8 c.args.entry.tick = search rules in
    let n : at + 16 ≡ at + length c.to_be_bytes.result = ap (λ (k : ℕ). at + k) (sym (ap length d)) in
    let m : at + 24 ≡ at + 16 + length c.to_be_bytes-2.result = omega (arith, ap length t) in
    ap (λ (k : ℕ). take k c.put-2.new.out) m
    ∙ put-front c.put.new.out c.to_be_bytes-2.result c.put-2.new.out (at + 16) (omega (arith, ap length t, c.requires, c.put.auto.out)) c.put-2.ensures
    ∙ ap (λ (x : List ℕ). x ++ c.to_be_bytes-2.result) (ap (λ (k : ℕ). take k c.put.new.out) n ∙ put-front o c.to_be_bytes.result c.put.new.out at (omega (arith, ap length d, c.requires)) c.put.ensures)
    ∙ append_assoc (take at o) c.to_be_bytes.result c.to_be_bytes-2.result
    ∙ ap (λ (x : List ℕ). take at o ++ (x ++ c.to_be_bytes-2.result)) d
    ∙ ap (λ (x : List ℕ). take at o ++ (bytes_of 16 c.args.entry.digest ++ x)) t
