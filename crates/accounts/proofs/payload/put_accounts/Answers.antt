use Rattle.std.proofs.Common.{◌≡◌, ℕ, ◌+◌, ◌-◌, ◌*◌, ◌≤◌, List, ◌++◌, length, take, drop, sym, ap, ◌∙◌, arith}
use Rattle.accounts.specs.Bytes.{payload-more, payload-none}
use Rattle.accounts.proofs.payload.put_accounts.Goals as goal
use Rattle.accounts.specs.Payload.{payload}
use Rattle.std.proofs.lemmas.List.{length-drop, length-take-le, take_all}
use Rattle.std.proofs.lemmas.Slice.{take-put_mid}

pub loop-number-init : goal.loop-number-init
loop-number-init c = sym (payload-none c.args.accounts.now)

pub loop-number-preserved : goal.loop-number-preserved
loop-number-preserved c =
    let xs = c.args.accounts.now in
    let x = c.loop-number.bytes in
    let i = c.loop-number.number in
    let ys = c.copy_from_slice.new.self in
    let l : 33 * i + 33 - 33 * i ≤ length (drop (33 * i) x) = omega (arith, length-drop (33 * i) x, c.loop-number.auto.bytes) in
    let k : length ys ≡ 33 = c.copy_from_slice.ensures.len ∙ length-take-le (33 * i + 33 - 33 * i) (drop (33 * i) x) l ∙ (omega arith) in
    take-put_mid (33 * i) (33 * i + 33 - 33 * i) x ys (33 * (i + 1)) (omega arith) (omega (arith, c.loop-number.auto.bytes))
    ∙ ap (λ (y : List ℕ). y ++ ys) c.loop-number.invariant
    ∙ ap (λ (y : List ℕ). payload (take i xs) ++ y) (c.copy_from_slice.ensures.after ∙ c.entry_of.ensures)
    ∙ sym (payload-more xs i _ (omega arith))

pub returns : goal.returns
returns c =
    let xs = c.args.accounts.now in
    let x = c.loop-number.bytes in
    let i = c.loop-number.number in
    let e : i ≡ 1024 = omega (arith, c.loop-number-test.false, c.loop-number.auto.number-end) in
    sym (take_all (33 * i) x (omega (arith, c.loop-number.auto.bytes)))
    ∙ c.loop-number.invariant
    ∙ ap payload (take_all i xs (omega arith))
