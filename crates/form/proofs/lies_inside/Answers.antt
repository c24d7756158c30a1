-- The directive that is named, if there is one. Assumes nothing.
use mathlib.Core.Path.{sym, ◌∙◌}
use borrow.Author.Rules.{rules}
use borrow.Author.Tests.{ltb-true, ltb-false}
use Rattle.form.proofs.Exceptions.{names_none, names_one, names_past}
use Rattle.form.proofs.lies_inside.Goals as goal

pub returns-in-0 : goal.returns-in-0
returns-in-0 c = sym (names_none _ _ _ c.in-0.is)

pub returns-in-Some : goal.returns-in-Some
returns-in-Some c =
    let there = c.in-Some.ensures.lookup in
    c.inside.ensures ∙ sym (names_one _ _ _ _ (λ z. search rules) (ltb-true _ _ (sym there.0)) there.1)

pub returns-in-None : goal.returns-in-None
returns-in-None c = sym (names_past _ _ _ (λ z. search rules) (ltb-false _ _ (sym c.in-None.ensures.lookup.0)))
