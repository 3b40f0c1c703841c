use Rattle.halves.proofs.Parts.{payload_in-half}
use Rattle.halves.proofs.write.make.Goals as goal
use Rattle.halves.specs.Blocks.{Writes}
use Rattle.halves.specs.Half.{half, payload_in}
use Rattle.halves.specs.Halves.{known_of, whether}
use Rattle.halves.specs.declared.half.Half.{Half}
use Rattle.halves.specs.declared.which.Which.TheVariants.{Second}
use Rattle.std.proofs.Common.{◌≡◌, ℕ, ◌-◌, List, length, Option, is_ok, ap, ◌∙◌, subst}

pub returns : goal.returns
returns g c =
    let x = c.args.bytes.now in
    let n = length x - 24 in
    let e : payload_in c.put_half.new.bytes ≡ payload_in x = ap payload_in c.put_half.ensures.bytes ∙ payload_in-half 1 (payload_in x) in
    let P : List ℕ → Type 0 = λ p. Writes Second (half 2 p) (g.D.Device.blocks c.put_half.new.device) (is_ok c.put_half-2.result) (g.D.Device.blocks c.put_half-2.new.device) in
    record {
      one = is_ok c.put_half.result;
      two = is_ok c.put_half-2.result;
      between = g.D.Device.blocks c.put_half.new.device;
      first = c.put_half.ensures.device;
      second = subst P e c.put_half-2.ensures.device;
      known =
          c.known.ensures
          ∙ ap (λ (o : Option Half). known_of 2 o c.ok-second.result) (c.ok-first.ensures.value ∙ c.put_half.ensures.half)
          ∙ ap (λ (o : Option Half). known_of 2 (whether (is_ok c.put_half.result) 1 n) o) (c.ok-second.ensures.value ∙ c.put_half-2.ensures.half ∙ ap (λ (k : ℕ). whether (is_ok c.put_half-2.result) 2 (k - 24)) c.put_half.auto.bytes);
      left = c.put_half-2.ensures.bytes ∙ ap (half 2) e;
    }
