use mathlib.Core.Bool.{Bool, false}
use mathlib.Core.List.{List, map}
use mathlib.Core.Path.{◌≡◌, subst, subst⁻¹}
use Prim.Native.Nat.{◌+◌}
use borrow.Author.Rules.{rules}
use lib.ListN.{length, take, drop, replicate}
use Rattle.meaning.specs.Form.{Exception, most_directives, most_exceptions}
use Rattle.blocks.specs.Vocabulary.{packet_of}
use Rattle.sets.specs.Empty.{zero_exception}
use Rattle.sets.specs.Inner.{exceptions_of}
use Rattle.sets.specs.Vocabulary.{exception_of}
use Rattle.sets.proofs.Walks.{length_of_map, slice_next, slice_over}
use Rattle.labels.proofs.Marks.{Marked, marked_start, marked_none, marked_some, marked_end}
use Rattle.labels.proofs.Records.{within_count}
use Rattle.labels.proofs.excepted.Goals as goal
use Rattle.labels.proofs.excepted.Goals.{in-Some, in_default}

pub loop-exception-init : goal.loop-exception-init
loop-exception-init c =
    let s = c.args.policy in
    let full : length s.exceptions ≡ most_exceptions = search (rules, length_of_map) in
    let held = within_count exception_of s.exceptions s.exception_count c.min.result most_exceptions full c.min.ensures in
    subst (λ (es : List Exception). Marked (packet_of c.args.packet) (exceptions_of s) es (replicate most_directives false)) held
    (marked_start (packet_of c.args.packet) (exceptions_of s))

pub loop-exception-preserved : goal.loop-exception-preserved
loop-exception-preserved c =
    let p = packet_of c.args.packet in
    let all = exceptions_of c.args.policy in
    let items = take c.min.result c.args.policy.exceptions in
    let i = c.loop-exception.exception-index in
    let left = map exception_of (drop (i + 1) items) in
    let this = slice_next exception_of items i zero_exception c.loop-exception-test.true in
    let so_far = subst (λ (es : List Exception). Marked p all es c.loop-exception.marks) this c.loop-exception.invariant in
    elim c.match-excepted_directive.branch [
      | in-Some w ↦ subst⁻¹ (λ (marks : List Bool). Marked p all left marks) w.marks-is (marked_some p all _ left _ so_far w.in-Some.place w.in-Some.ensures)
      | in_default w ↦ subst⁻¹ (λ (marks : List Bool). Marked p all left marks) w.marks-is (marked_none p all _ left _ so_far w.in_default.ensures)
    ]

pub returns : goal.returns
returns c =
    let p = packet_of c.args.packet in
    let all = exceptions_of c.args.policy in
    let none = slice_over exception_of _ _ c.loop-exception-test.false in
    let marked = subst (λ (es : List Exception). Marked p all es c.loop-exception.marks) none c.loop-exception.invariant in
    record { at = marked_end p all _ marked }
