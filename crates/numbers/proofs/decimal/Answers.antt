use mathlib.Core.Path.{ap, sym, ◌∙◌}
use native.Mathlib.Omega.{arith}
use Rattle.std.specs.Prelude.{Some}
use lib.ListN.{drop_of_length-le}
use Rattle.numbers.specs.Decimals.{digits}
use Rattle.numbers.proofs.Reckoning.{digit_low, digit_high, decimal_is, decimal_unplain, decimal_letters, decimal_large, decimal_past, value_read}
use Rattle.numbers.proofs.decimal.Goals as goal

pub returns-then-not-is_plain : goal.returns-then-not-is_plain
returns-then-not-is_plain c = sym (decimal_unplain c.args.most c.args.text.now (cc))

pub returns-in_default : goal.returns-in_default
returns-in_default c =
    let at = c.loop-byte in
    let text = c.args.text.now in
    sym (decimal_letters c.args.most text (at.invariant.digits_left ∙ digit_low text at.byte-index (omega arith) (omega arith)))

pub returns-in_default-2 : goal.returns-in_default-2
returns-in_default-2 c =
    let at = c.loop-byte in
    let text = c.args.text.now in
    sym (decimal_letters c.args.most text (at.invariant.digits_left ∙ digit_high text at.byte-index (omega arith) (omega arith)))

pub returns-in_err-checked_mul : goal.returns-in_err-checked_mul
returns-in_err-checked_mul c =
    let at = c.loop-byte in
    let past = c.in_err-checked_mul.ensures in
    let large = decimal_past c.args.most c.args.text.now at.value at.byte-index (omega arith) at.invariant.value_left (omega arith) in
    c.from_residual.ensures ∙ sym large

pub returns-in_err-value : goal.returns-in_err-value
returns-in_err-value c =
    let at = c.loop-byte in
    let past = c.in_err-value.ensures in
    let tens = c.in_ok-checked_mul.ensures in
    let large = decimal_past c.args.most c.args.text.now at.value at.byte-index (omega arith) at.invariant.value_left (omega arith) in
    c.from_residual-in_err-value.ensures ∙ sym large

pub returns-then-value-most : goal.returns-then-value-most
returns-then-value-most c =
    let at = c.loop-byte in
    let text = c.args.text.now in
    let over = drop_of_length-le text {i = at.byte-index} (omega arith) in
    let is = value_read c.args.most text at.value at.byte-index (omega arith) at.invariant.value_left in
    sym (decimal_is c.args.most text at.invariant.begun (at.invariant.digits_left ∙ ap digits over) (omega arith) ∙ ap Some is)

pub returns-else-value-most : goal.returns-else-value-most
returns-else-value-most c =
    let at = c.loop-byte in
    let text = c.args.text.now in
    let is = value_read c.args.most text at.value at.byte-index (omega arith) at.invariant.value_left in
    sym (decimal_large c.args.most text (omega arith))
