use Rattle.halves.proofs.halves.Halves.start.Goals as goal
use Rattle.halves.specs.Halves.{Starts, makes}
use Rattle.std.proofs.Common.{ℕ, Bool, sym, refl, ap, ◌∙◌, subst}

pub returns-then-is_to_make : goal.returns-then-is_to_make
returns-then-is_to_make g c =
    let P : Bool → Type 0 = λ t. Starts t (g.F.Format.measured c.args.format.now) (g.D.Device.blocks c.args.device.now) c.args.bytes.now c.make.result (g.D.Device.blocks c.make.new.device) c.make.new.bytes in
    subst P (sym c.if-is_to_make.true ∙ c.is_to_make.ensures ∙ ap (λ (n : ℕ). makes n (g.D.Device.blocks c.args.device.now) c.args.bytes.now) c.most.ensures) c.make.ensures

pub returns : goal.returns
returns g c =
    let P : Bool → Type 0 = λ t. Starts t (g.F.Format.measured c.args.format.now) (g.D.Device.blocks c.args.device.now) c.args.bytes.now c.read.result (g.D.Device.blocks c.args.device.now) c.args.bytes.now in
    subst P (sym c.if-is_to_make.false ∙ c.is_to_make.ensures ∙ ap (λ (n : ℕ). makes n (g.D.Device.blocks c.args.device.now) c.args.bytes.now) c.most.ensures) (c.read.ensures, refl, refl)
