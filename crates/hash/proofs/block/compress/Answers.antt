use Rattle.std.proofs.Common.{◌≡◌, ◌+◌, ◌%◌, ◌^◌, get_or, ap, ◌∙◌, arith}
use Rattle.std.proofs.lemmas.List.FromFn.{fill_by_all}
use Rattle.hash.specs.Sha256.{rounds, added, compressed}
use Rattle.hash.proofs.block.compress.Goals as goal

pub returns : goal.returns
unfolding compressed
returns c =
    let was = c.args.state.now in
    let e : c.loop-i.i ≡ 8 = omega arith in
    fill_by_all (λ k. (get_or c.rounds_of-worked.result k 0 + get_or was k 0) % 2 ^ 32) c.loop-i.state 8 0 c.loop-i.invariant.long
    (λ k lt. c.loop-i.invariant.done k (omega arith))
    ∙ ap (λ s. added s was) (c.rounds_of-worked.ensures ∙ ap (λ w. rounds 64 w was) c.schedule_of.ensures)
