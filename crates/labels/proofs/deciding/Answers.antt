-- The first rule within the count that holds the packet, by its place. Assumes nothing.
use mathlib.Core.Path.{◌≡◌, ap, sym, ◌∙◌}
use native.Mathlib.Omega.{arith}
use borrow.Author.Rules.{rules}
use Prim.Native.Nat.{ℕ, ◌+◌, ◌-◌}
use lib.ListN.{length, take, get_or}
use Rattle.std.proofs.lemmas.Iterator.{YieldsList-from_slice}
use Rattle.std.proofs.lemmas.Iterator.Adapters.{position_from-zero}
use Rattle.std.proofs.lemmas.Iterator.Search.{position_from_yields_List}
use Rattle.meaning.specs.Blocks.{holds}
use Rattle.meaning.specs.Form.{most_rules}
use Rattle.meaning.specs.Records.{found, first_from}
use Rattle.meaning.specs.Rules as meaning
use Rattle.blocks.specs.Vocabulary.{packet_of}
use Rattle.sets.specs.Empty.{zero_rule}
use Rattle.sets.specs.declared.Rule.{Rule}
use Rattle.sets.specs.Vocabulary.{rule_of}
use Rattle.sets.proofs.Walks.{length_of_map}
use Rattle.labels.specs.Answers.{decided_of}
use Rattle.labels.proofs.Firsts.{first_none, first_some}
use Rattle.labels.proofs.Records.{within_count}
use Rattle.labels.proofs.deciding.Goals as goal

pub returns-in_err-place : goal.returns-in_err-place
unfolding meaning.deciding
returns-in_err-place c =
    let s = c.args.rules in
    let test = λ (r : meaning.Rule). holds r.block (packet_of c.args.packet) in
    let full : length s.records ≡ most_rules = search (rules, length_of_map) in
    let placed =
    position_from_yields_List (λ (r : Rule). test (rule_of r)) _ _ c.position.result c.position.ensures.ran
    (YieldsList-from_slice (take c.min.result s.records) (search rules)) (λ x b q k. search rules)
    ∙ position_from-zero (λ (r : Rule). test (rule_of r)) (take c.min.result s.records) in
    ap decided_of c.from_residual.ensures
    ∙ sym
    (ap (first_from 1 test) (within_count rule_of s.records s.count c.min.result most_rules full c.min.ensures)
    ∙ first_none rule_of test 0 (take c.min.result s.records) (sym placed ∙ c.in_err-place.was))

pub returns : goal.returns
unfolding meaning.deciding
returns c =
    let s = c.args.rules in
    let place = c.in_ok-place.place in
    let test = λ (r : meaning.Rule). holds r.block (packet_of c.args.packet) in
    let full : length s.records ≡ most_rules = search (rules, length_of_map) in
    let placed =
    position_from_yields_List (λ (r : Rule). test (rule_of r)) _ _ c.position.result c.position.ensures.ran
    (YieldsList-from_slice (take c.min.result s.records) (search rules)) (λ x b q k. search rules)
    ∙ position_from-zero (λ (r : Rule). test (rule_of r)) (take c.min.result s.records) in
    let here : place - 0 ≡ place = omega arith in
    sym
    (ap (first_from 1 test) (within_count rule_of s.records s.count c.min.result most_rules full c.min.ensures)
    ∙ (first_some rule_of test 0 place (take c.min.result s.records) zero_rule (sym placed ∙ c.in_ok-place.was)).1
    ∙ ap (λ (i : ℕ). found (place + 1) (rule_of (get_or (take c.min.result s.records) i zero_rule))) here)
