-- Document 01's examples: its twelve labels by one computed test, and its whole run at the real field sizes by cells. Assumes nothing.
use mathlib.Core.Path.{◌≡◌, refl, ap, subst}
use mathlib.Core.Bool.{◌&&◌}
use mathlib.Core.List.{List, [], ◌∷◌, map}
use Prim.Native.Nat.{ℕ, ◌^◌}
use native.Mathlib.Omega.{arith}
use lib.Dec.{T}
use Rattle.meaning.specs.Blocks.{within, holds, inside}
use Rattle.meaning.specs.Buffers.{bounds, row, rows, row_length}
use Rattle.meaning.specs.Document.{quad, only, block8443, handsets, rules, directive1, policy, verdict_line, block_lines, block_numbers, rules4, Row, twelve}
use Rattle.meaning.specs.Fields.{fields}
use Rattle.meaning.specs.Form.{RuleSet, PolicySet, table_of, naming, directives_from, policy_of, block_in_form, rules_in_form, inside_of, exceptions_in_form, policy_in_form}
use Rattle.meaning.specs.Labels.{Label, good, kind, rule, judged, label}
use Rattle.meaning.specs.Listings.{Listing, FaultListing}
use Rattle.meaning.specs.Policies.{excepted, asks, asked, lowest_asking}
use Rattle.meaning.specs.Records.{numbered, some_of, all_of, first_from, number_of}
use Rattle.meaning.specs.Rules.{accept, opposite, same_action, deciding}
use Rattle.meaning.specs.Strips.{Cut, counts, corner, stretch, lift, is_place, cut_at, cut_for_directive, cut_for}
use Rattle.meaning.specs.Verdicts.{conforms, VerdictOn}
use Rattle.meaning.proofs.VerdictFirst.{better, ahead, best_below, best, best_is}
use Rattle.meaning.proofs.LabelKinds.{same_label, same_label_iff}
use Rattle.meaning.proofs.ListingEmpty.{all_good_conforms}
use Rattle.meaning.proofs.ListingExists.{below, agree, last_from, runs_from, listing_of, listing_computed}
use Rattle.meaning.proofs.StripVerdict.{corner_is_verdict}
use Rattle.meaning.proofs.StripLabels.{label_by_cells}
use Rattle.meaning.proofs.LabelCases.{label_numbered}
use Rattle.meaning.proofs.StripListing.{listing_lifts}
use Rattle.meaning.proofs.StripPlaces.{rising_below, cut_by}
use Rattle.meaning.proofs.VerdictRanks.{rank_of, rank, FirstOf}

-- each row has the label that the document gives
pub twelve_labels : map (λ (r : Row). label r.table r.asked_by r.packet) twelve ≡ map (λ (r : Row). r.expected) twelve
unfolding label judged asked asks excepted deciding first_from some_of holds within opposite same_action
twelve_labels = refl

abbrev cuts : List Cut
unfolding rising_below
cuts =
    cut_by (2 ^ 32) (0 ∷ quad 10 20 0 0 ∷ quad 10 20 0 9 ∷ quad 10 20 0 10 ∷ quad 10 20 1 0 ∷ []) refl tt
    ∷ cut_by (2 ^ 32) (0 ∷ quad 10 30 0 4 ∷ quad 10 30 0 6 ∷ quad 10 30 0 7 ∷ quad 10 30 0 8 ∷ []) refl tt
    ∷ cut_by (2 ^ 8) (0 ∷ 6 ∷ 7 ∷ []) refl tt
    ∷ cut_by (2 ^ 16) (0 ∷ 8443 ∷ 8444 ∷ []) refl tt
    ∷ []

abbrev cell_label : List ℕ → Label
unfolding rising_below
cell_label cell = label rules policy (corner cuts cell)

blocks_computed : map (lift cuts) (listing_of same_label same_label_iff good (counts cuts) cell_label) ≡ block_lines
unfolding rising_below listing_of runs_from last_from agree below same_label kind rule label judged asked asks excepted deciding first_from some_of holds within opposite same_action corner stretch
blocks_computed = refl

rules_and_policy_cut : T (cut_for cuts rules policy)
unfolding rising_below cut_for cut_for_directive cut_at is_place all_of some_of
rules_and_policy_cut = tt

-- the four blocks are the listing, over all packets
pub run_blocks : FaultListing fields rules policy block_lines
unfolding rising_below
run_blocks =
    subst (Listing good fields (label rules policy)) blocks_computed
    (listing_lifts good cuts cell_label (label rules policy) (listing_of same_label same_label_iff good (counts cuts) cell_label) (label_by_cells cuts rules policy rules_and_policy_cut)
    (listing_computed same_label same_label_iff good (counts cuts) cell_label))

-- the cell of the verdict's packet
first_cell : FirstOf (counts cuts) (λ cell. rank 3 (cell_label cell)) (2 ∷ 2 ∷ 1 ∷ 1 ∷ [])
unfolding rising_below best best_below better ahead rank_of kind rule label judged asked asks excepted deciding first_from some_of holds within opposite same_action corner
first_cell = best_is (counts cuts) (λ cell. rank 3 (cell_label cell))

wrong_there : ¬ (cell_label (2 ∷ 2 ∷ 1 ∷ 1 ∷ []) ≡ good)
unfolding rising_below kind label judged asked asks excepted deciding first_from some_of holds within opposite same_action corner
wrong_there e = omega (arith, ap kind e)

-- the verdict line is the verdict, over all packets
pub run_verdict : VerdictOn fields rules policy verdict_line
unfolding rising_below corner lowest_asking number_of label judged asked asks excepted deciding first_from some_of holds within opposite same_action
run_verdict =
    corner_is_verdict cuts (label rules policy) (lowest_asking policy) (label_by_cells cuts rules policy rules_and_policy_cut) 3 (λ q i. label_numbered rules policy q)
    (2 ∷ 2 ∷ 1 ∷ 1 ∷ [])
    first_cell
    wrong_there

-- a block takes ten numbers, and those of the block lines are the blocks'
pub ten_numbers : row_length fields ≡ 10
ten_numbers = refl

pub run_numbers : rows block_lines ≡ block_numbers
unfolding rows row bounds kind rule
run_numbers = refl

-- The document's sets are in form, as sets with a count and a spare record, and stand for its table and its policy.
abbrev rule_set : RuleSet
rule_set = record { count = 3; records = rules4 }

abbrev policy_set : PolicySet
policy_set =
    record {
      directive_count = 1;
      directives = record { action = accept; block = directive1.block } ∷ [];
      exception_count = 1;
      exceptions = record { directive = 1; block = block8443 handsets (only (quad 10 30 0 6)) } ∷ [];
    }

pub run_in_form : T (rules_in_form fields rule_set && policy_in_form fields policy_set)
unfolding rules_in_form policy_in_form exceptions_in_form inside_of inside block_in_form numbered all_of
run_in_form = tt

pub run_sets : (table_of rule_set ≡ rules) × (policy_of policy_set ≡ policy)
unfolding policy_of directives_from naming
run_sets = (refl, refl)

-- "An empty table and an empty policy are in form; both empty conform."
pub empty_in_form : (ns : List ℕ)
    → T (rules_in_form ns (record { count = 0; records = [] }) && policy_in_form ns (record { directive_count = 0; directives = []; exception_count = 0; exceptions = [] }))
unfolding rules_in_form policy_in_form exceptions_in_form all_of
empty_in_form ns = tt

pub empty_conforms : (ns : List ℕ) → VerdictOn ns [] (record { directives = [] }) (conforms ns)
unfolding label judged asked deciding first_from some_of
empty_conforms ns = all_good_conforms ns (label [] (record { directives = [] })) (lowest_asking (record { directives = [] })) (λ q i. refl)
