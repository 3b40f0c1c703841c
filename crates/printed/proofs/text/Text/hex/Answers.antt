use Rattle.std.proofs.Common.{◌≡◌, ◌+◌, List, ℕ, ◌++◌, length, take, vec_items, sym, ap, ◌∙◌, arith}
use Rattle.std.proofs.lemmas.List.{with_items_is}
use Rattle.words.specs.Laws.{hex_text, bytes_text}
use Rattle.printed.proofs.Hex.{some-text, before-room}
use Rattle.printed.proofs.text.Text.hex.Goals as goal

pub returns : goal.returns
returns c =
    let text = c.args.self.now.bytes in
    let n : length (vec_items text) ≡ c.len-at.result = sym text.ok.0 ∙ sym c.len-at.ensures in
    let kept : vec_items c.reserve.new.self ≡ vec_items text = c.reserve.ensures.items in
    let front : take c.len-at.result c.as_mut_slice.result.now ≡ vec_items text = ap (take c.len-at.result) (c.as_mut_slice.ensures.value ∙ c.in_ok-resize.ensures.items) ∙ before-room (vec_items c.reserve.new.self) _ c.len-at.result (c.len-at.result + c.in-Some.digits) (ap length kept ∙ n) (omega arith) ∙ kept in
    let same : hex_text c.args.bytes.now ≡ bytes_text c.args.bytes.now = some-text c.args.bytes.now (sym c.if-is_empty.ensures) in
    with_items_is c.resize.new.self c.put_hex.new.out (c.put_hex.auto.out ∙ c.as_mut_slice.ensures.len)
    ∙ c.put_hex.ensures
    ∙ ap (λ (l : List ℕ). l ++ hex_text c.args.bytes.now) front
    ∙ ap (λ (l : List ℕ). vec_items text ++ l) same
