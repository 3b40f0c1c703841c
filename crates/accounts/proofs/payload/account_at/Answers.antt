use Rattle.std.proofs.Common.{◌≡◌, ◌*◌, eqb, take, drop, sym, ap, ◌∙◌, rules}
use Rattle.accounts.proofs.payload.account_at.Goals as goal
use Rattle.accounts.specs.Entry.{account_in}
use Rattle.parts.specs.declared.account.Account.TheVariants.{Absent}
use Rattle.std.proofs.lemmas.Bool.{cond-false, ne_eqb}

pub returns : goal.returns
returns c =
    let x = c.args.bytes.now in
    let n = c.args.number in
    let e : c.unwrap.result.now ≡ take 33 (drop (33 * n) x) = search rules in
    c.account_in.ensures
    ∙ ap account_in e
    ∙ sym (cond-false (eqb n 0) Absent (account_in (take 33 (drop (33 * n) x))) (ne_eqb n 0 c.if-number-eq0.false))
