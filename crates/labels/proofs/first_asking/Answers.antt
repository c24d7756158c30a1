use mathlib.Core.Path.{◌≡◌, sym, ap, ◌∙◌}
use native.Mathlib.Omega.{arith}
use borrow.Author.Rules.{rules}
use lib.ListN.{length, length-take}
use Rattle.meaning.specs.Form.{most_directives}
use Rattle.blocks.specs.Vocabulary.{packet_of}
use Rattle.sets.specs.Vocabulary.{action_of, directive_of}
use Rattle.sets.proofs.Walks.{length_of_map}
use Rattle.labels.specs.Answers.{number_told}
use Rattle.labels.proofs.Asking.{asking_here, asking_later, asking_over, asking_start, told_next}
use Rattle.labels.proofs.Records.{within_count}
use Rattle.labels.proofs.first_asking.Goals as goal

pub loop-place-init : goal.loop-place-init
loop-place-init c =
    let s = c.args.policy in
    let full : length s.directives ≡ most_directives = search (rules, length_of_map) in
    asking_start s (action_of c.args.action) (packet_of c.args.packet) _
    (within_count directive_of s.directives s.directive_count c.min.result most_directives full c.min.ensures)

pub returns-then-asks : goal.returns-then-asks
returns-then-asks c =
    let there = c.loop-place-test.true in
    let mark = c.requires.at c.loop-place.place (omega (arith, length-take c.min.result c.args.policy.directives)) in
    sym
    (ap number_told (c.loop-place.invariant ∙ asking_here _ _ _ _ c.loop-place.place there _ mark (sym c.asks.ensures ∙ c.if-asks.true))
    ∙ told_next c.loop-place.place)

pub loop-place-preserved : goal.loop-place-preserved
loop-place-preserved c =
    let there = c.loop-place-test.true in
    let mark = c.requires.at c.loop-place.place (omega (arith, length-take c.min.result c.args.policy.directives)) in
    c.loop-place.invariant ∙ asking_later _ _ _ _ c.loop-place.place there _ mark (sym c.asks.ensures ∙ c.if-asks.false)

pub returns : goal.returns
returns c = sym (ap number_told (c.loop-place.invariant ∙ asking_over _ _ _ _ c.loop-place.place c.loop-place-test.false))
