use Rattle.std.proofs.Common.{◌≡◌, true, false, get_or, sym, subst, ◌<◌, ap, ◌∙◌, arith}
use Rattle.std.proofs.lemmas.Int.Digits.{digits_value_more}
use Rattle.std.proofs.lemmas.Bool.{and_from}
use Rattle.std.proofs.lemmas.List.{take_all}
use Rattle.std.proofs.lemmas.List.Folds.{list_all_more, list_all_at}
use Rattle.std.specs.Char.{is_ascii_digit, digit_value}
use Rattle.std.specs.List.{list_all}
use Rattle.words.proofs.Scan.{digit-true, digit-false, number-all, number-not}
use Rattle.words.proofs.number.Goals as goal

pub returns-in_err-digit : goal.returns-in_err-digit
returns-in_err-digit c =
    let same : c.from.result ≡ get_or c.args.word.now c.loop-b.b-index 0 = c.from.ensures in
    let no : is_ascii_digit (get_or c.args.word.now c.loop-b.b-index 0) ≡ false = digit-false (get_or c.args.word.now c.loop-b.b-index 0) (λ h. c.in_err-digit.ensures.value (subst (λ b. digit_value b < 10) (sym same) h)) in
    c.from_residual.ensures ∙ sym (number-not c.args.word.now (list_all_at is_ascii_digit c.args.word.now c.loop-b.b-index 0 c.loop-b-test.true no))

pub loop-b-preserved : goal.loop-b-preserved
loop-b-preserved c =
    let same : c.from.result ≡ get_or c.args.word.now c.loop-b.b-index 0 = c.from.ensures in
    let v = digits_value_more 10 c.args.word.now c.loop-b.b-index c.loop-b-test.true in
    let d : c.in_ok-digit.digit ≡ digit_value (get_or c.args.word.now c.loop-b.b-index 0) = c.in_ok-digit.ensures.value.1 ∙ ap digit_value same in
    let yes : is_ascii_digit (get_or c.args.word.now c.loop-b.b-index 0) ≡ true = digit-true (get_or c.args.word.now c.loop-b.b-index 0) (subst (λ b. digit_value b < 10) same c.in_ok-digit.ensures.value.0) in
    (list_all_more is_ascii_digit c.args.word.now c.loop-b.b-index 0 c.loop-b-test.true ∙ and_from _ _ c.loop-b.invariant.0 yes, omega (arith, c.loop-b.invariant.1))

pub returns : goal.returns
returns c =
    let front = take_all c.loop-b.b-index c.args.word.now c.loop-b-test.false in
    let all : list_all is_ascii_digit c.args.word.now ≡ true = ap (list_all is_ascii_digit) (sym front) ∙ c.loop-b.invariant.0 in
    let whole = number-all c.args.word.now all in
    let n = c.loop-b.invariant.1 in cc
