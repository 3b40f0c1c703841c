use Rattle.accounts.specs.Bytes.{payload-mid}
use Rattle.accounts.proofs.file.encode.Goals as goal
use Rattle.std.proofs.lemmas.List.{length-drop, length-take-le}
use Rattle.std.proofs.Common.{◌≡◌, length, drop, ◌∙◌, arith, rules}

pub returns : goal.returns
returns c =
    let x = c.args.bytes.now in
    let h : length x ≡ 33816 = search rules in
    let l : length c.put_accounts.new.bytes ≡ 33792 = c.put_accounts.auto.bytes ∙ length-take-le 33792 (drop 8 x) (omega (arith, length-drop 8 x, h)) in
    payload-mid x c.put_accounts.new.bytes h l ∙ c.put_accounts.ensures
