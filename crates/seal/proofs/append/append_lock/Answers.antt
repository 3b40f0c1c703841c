use Rattle.std.proofs.Common.{◌≡◌, length, vec_items, sym, ◌∙◌}
use Rattle.std.proofs.lemmas.List.{with_items_is}
use Rattle.seal.specs.Kind.{number_of}
use Rattle.seal.proofs.Appending.{appended}
use Rattle.seal.proofs.append.append_lock.Goals as goal

pub returns : goal.returns
returns c =
    let out = c.args.out.now in
    let n : length (vec_items out) ≡ c.len-at.result = sym out.ok.0 ∙ sym c.len-at.ensures in
    with_items_is c.lay.new.out c.seal_from.new.word (c.seal_from.auto.word ∙ c.as_mut_slice.ensures.len)
    ∙ c.seal_from.ensures
    ∙ appended (number_of c.args.kind) c.args.key.now c.args.drawn.now c.args.inside.now (vec_items out) _
    c.len-at.result n c.told-drawn (c.as_mut_slice.ensures.value ∙ c.in_default.ensures.made)
