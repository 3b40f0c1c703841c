use Rattle.halves.proofs.Parts.{made}
use Rattle.halves.proofs.write.put_half.Goals as goal
use Rattle.halves.specs.Blocks.{block, over, put}
use Rattle.halves.specs.Half.{stamp}
use Rattle.std.proofs.Common.{ℕ, List, ap, ◌∙◌, rules}

pub returns-in_err-write-clause-bytes : goal.returns-in_err-write-clause-bytes
unfolding stamp
returns-in_err-write-clause-bytes g c =
    made c.args.turn c.args.bytes.now c.copy_from_slice.new.self c.copy_from_slice-2.new.self c.requires (search rules) (search rules)

pub returns-clause-device : goal.returns-clause-device
unfolding stamp
returns-clause-device g c =
    let b = g.D.Device.blocks c.args.device.now in
    c.in_ok-write.ensures
    ∙ ap (λ (y : List ℕ). put c.args.which (over y (block c.args.which b)) b)
    (made c.args.turn c.args.bytes.now c.copy_from_slice.new.self c.copy_from_slice-2.new.self c.requires (search rules) (search rules))

pub returns-clause-bytes : goal.returns-clause-bytes
unfolding stamp
returns-clause-bytes g c =
    made c.args.turn c.args.bytes.now c.copy_from_slice.new.self c.copy_from_slice-2.new.self c.requires (search rules) (search rules)
