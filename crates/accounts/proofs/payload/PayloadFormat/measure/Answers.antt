use Rattle.accounts.proofs.payload.PayloadFormat.measure.Goals as goal
use Rattle.accounts.specs.Bytes.{measure-front}
use Rattle.std.proofs.Common.{ℕ, Bool, ap, ◌∙◌}
use Rattle.std.specs.Bool.{then_some}

pub returns : goal.returns
returns c =
    c.then_some.ensures ∙ ap (λ (v : Bool). then_some {T = ℕ} v 33792) c.are_low.ensures
    ∙ measure-front c.args.bytes.now c.in_ok-first_chunk.field-0.now _ c.in_ok-first_chunk.ensures.cases.enough c.in_ok-first_chunk.ensures.cases.same c.as_chunks.ensures.front
