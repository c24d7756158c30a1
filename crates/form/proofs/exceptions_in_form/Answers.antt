use mathlib.Core.Path.{sym, ◌∙◌}
use Rattle.std.proofs.lemmas.List.{take-map}
use Rattle.sets.specs.Vocabulary.{directive_of, exception_of}
use Rattle.form.proofs.Exceptions.{one_in_form, one_out_of_form, none_left}
use Rattle.form.proofs.exceptions_in_form.Goals as goal

pub loop-exception-init : goal.loop-exception-init
loop-exception-init c = simp (take-map directive_of, take-map exception_of)

pub returns-then-not-exception_in_form : goal.returns-then-not-exception_in_form
returns-then-not-exception_in_form c =
    let here = sym c.exception_in_form.ensures ∙ c.if-not-exception_in_form.true in
    sym (c.loop-exception.invariant ∙ one_out_of_form _ _ _ _ c.loop-exception-test.true here)

pub loop-exception-preserved : goal.loop-exception-preserved
loop-exception-preserved c =
    let here = sym c.exception_in_form.ensures ∙ c.if-not-exception_in_form.false in
    c.loop-exception.invariant ∙ one_in_form _ _ _ _ c.loop-exception-test.true here

pub returns : goal.returns
returns c = sym (c.loop-exception.invariant ∙ none_left _ _ _ _ c.loop-exception-test.false)
