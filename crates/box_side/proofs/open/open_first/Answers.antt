use Rattle.std.proofs.Common.{◌≡◌, ℕ, ◌+◌, get_or, drop, Some, Option, sym, ap, ◌∙◌}
use Rattle.box_side.proofs.Tried.{here, next, no_key, none, shut, some}
use Rattle.box_side.proofs.open.open_first.Goals as goal
use Rattle.box_side.specs.Box.{opens_first}
use Rattle.locked.specs.Locked.{Bytes, Tried, ours}
use Rattle.seal.specs.Kind.{number_of}
use Rattle.parts.specs.declared.word.Key.{Key}

abbrev at : ℕ → Key → Bytes → Option Tried
at i key b = Some (record { place = i; key = key; inside = b })

pub returns-then-is_ok : goal.returns-then-is_ok
returns-then-is_ok c =
    let kind = number_of c.args.kind in
    let keys = c.args.keys.now in
    let i = c.loop-place.place in
    let key = get_or keys i no_key in
    let x = some _ (sym c.open_in_place.ensures.test ∙ sym c.is_ok.ensures.value ∙ c.if-is_ok.true) in
    ap (λ (b : Bytes). at i key b) (c.open_in_place.ensures.inside x.0 x.1)
    ∙ sym (here kind keys i c.loop-place.word x.0 c.loop-place-test.true x.1)
    ∙ c.loop-place.invariant.1

pub loop-place-preserved : goal.loop-place-preserved
loop-place-preserved c =
    let kind = number_of c.args.kind in
    let keys = c.args.keys.now in
    let i = c.loop-place.place in
    let key = get_or keys i no_key in
    let w = c.loop-place.word in
    let x = none _ (sym c.open_in_place.ensures.test ∙ sym c.is_ok.ensures.value ∙ c.if-is_ok.false) in
    let same : c.open_in_place.new.word ≡ w = c.open_in_place.ensures.word ∙ shut kind key.0 w x in (
      same ∙ c.loop-place.invariant.0,
      ap (λ (b : Bytes). opens_first ours kind (i + 1) (drop (i + 1) keys) b) same
          ∙ sym (next kind keys i w c.loop-place-test.true x)
          ∙ c.loop-place.invariant.1,
    )
