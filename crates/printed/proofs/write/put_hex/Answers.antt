use Rattle.std.proofs.Common.{◌≡◌, ◌-◌, ◌*◌, length, take, drop, rules, arith, length-take, length-drop}
use Rattle.hex.specs.Hex.{encode_lower}
use Rattle.printed.proofs.Hex.{laid}
use Rattle.printed.proofs.write.put_hex.Goals as goal

pub returns : goal.returns
returns c =
    let room : length (take (length c.args.out.now - c.args.at) (drop c.args.at c.args.out.now)) ≡ 2 * length c.args.bytes.now = omega (arith, c.requires, length-take (length c.args.out.now - c.args.at) (drop c.args.at c.args.out.now), length-drop c.args.at c.args.out.now) in
    let fits = c.encode_to_slice.ensures.fits.1 room in
    let digits : c.encode_to_slice.new.output ≡ encode_lower c.args.bytes.now = search rules in
    laid c.args.bytes.now c.args.out.now c.encode_to_slice.new.output c.args.at c.requires digits (λ i. (c.type_inv.bytes i).fits)
