-- A listing and a verdict computed over small fields: sources 0 to 4 and ports 0 to 3. Assumes nothing.
use mathlib.Core.Path.{◌≡◌, refl}
use mathlib.Core.Bool.{true, false}
use mathlib.Core.List.{List, [], ◌∷◌}
use Prim.Native.Nat.{ℕ}
use lib.Dec.{T}
use lib.ListN.{replicate}
use Rattle.meaning.specs.Blocks.{within, holds, inside, widest, shares, narrow_span, narrow, narrows, narrow_all, narrows_all}
use Rattle.meaning.specs.Buffers.{bounds, row, rows, written}
use Rattle.meaning.specs.Document.{range, only}
use Rattle.meaning.specs.Form.{RuleSet, PolicySet, block_in_form, rules_in_form, inside_of, exceptions_in_form, policy_in_form}
use Rattle.meaning.specs.Labels.{Label, good, wrong, unasked, kind, rule, judged, label}
use Rattle.meaning.specs.Listings.{Listed, FaultListing}
use Rattle.meaning.specs.Policies.{Policy, excepted, asks, asked, lowest_asking}
use Rattle.meaning.specs.Records.{numbered, all_of, some_of, first_from, number_of}
use Rattle.meaning.specs.Rules.{accept, opposite, same_action, Table, deciding}
use Rattle.meaning.specs.Verdicts.{VerdictOn}
use Rattle.meaning.proofs.VerdictFirst.{better, ahead, best_below, best}
use Rattle.meaning.proofs.LabelKinds.{same_label, same_label_iff}
use Rattle.meaning.proofs.ListingExists.{below, agree, last_from, runs_from, listing_of, listing_computed}
use Rattle.meaning.proofs.VerdictExists.{verdict_for, verdict_of, verdict_exists}
use Rattle.meaning.proofs.VerdictRanks.{rank_of}

abbrev sizes : List ℕ
sizes = 5 ∷ 4 ∷ []

-- sources 1 to 3 may use ports 0 to 2, but source 2 not port 1; the table forgets that, and accepts port 3 of source 4 unasked
abbrev table : Table
table =
    record { action = accept; block = range 1 3 ∷ range 0 2 ∷ [] }
    ∷ record { action = accept; block = only 4 ∷ only 3 ∷ [] }
    ∷ []

abbrev policy : Policy
policy = record { directives = record { action = accept; block = range 1 3 ∷ range 0 2 ∷ []; exceptions = (only 2 ∷ only 1 ∷ []) ∷ [] } ∷ [] }

abbrev blocks : List (Listed Label)
blocks =
    record { block = only 2 ∷ only 1 ∷ []; label = wrong 1 }
    ∷ record { block = only 4 ∷ only 3 ∷ []; label = unasked 2 }
    ∷ []

pub small_listing : FaultListing sizes table policy blocks
unfolding listing_of runs_from last_from agree below same_label kind rule label judged asked asks excepted deciding first_from some_of holds within opposite same_action
small_listing = listing_computed same_label same_label_iff good sizes (label table policy)

pub small_verdict : VerdictOn sizes table policy (record { label = wrong 1; accept_directive = 0; deny_directive = 1; packet = 2 ∷ 1 ∷ [] })
unfolding verdict_of verdict_for best best_below better ahead rank_of kind rule label judged asked asks lowest_asking number_of excepted deciding first_from some_of holds within opposite same_action
small_verdict = verdict_exists sizes table policy

-- six numbers a block: eight numbers have room for one, and the last two stay
pub small_buffer : written sizes blocks (9 ∷ 9 ∷ 9 ∷ 9 ∷ 9 ∷ 9 ∷ 8 ∷ 7 ∷ []) ≡ 2 ∷ 1 ∷ 2 ∷ 2 ∷ 1 ∷ 1 ∷ 8 ∷ 7 ∷ []
unfolding written rows row bounds kind rule
small_buffer = refl

-- the widest block narrowed to sources 1 to 3, then to ports from 2 on; ports 3 to 2 fall and leave it as it is
pub small_narrowing : T (narrows_all ((0, range 1 3) ∷ (1, range 2 9) ∷ []) (widest sizes))
    × (narrow_all ((0, range 1 3) ∷ (1, range 2 9) ∷ (1, range 3 2) ∷ []) (widest sizes) ≡ range 1 3 ∷ range 2 3 ∷ [])
unfolding narrows_all narrows shares narrow_all narrow narrow_span
small_narrowing = (tt, refl)

-- the sides of each limit: 64 rules are in form and 65 are not; 32 directives and 64 exceptions are, and one more of either is not
abbrev many_rules : ℕ → RuleSet
many_rules n = record { count = n; records = replicate 65 (record { action = accept; block = widest sizes }) }

abbrev many_directives : ℕ → ℕ → PolicySet
many_directives n m =
    record {
      directive_count = n;
      directives = replicate 33 (record { action = accept; block = widest sizes });
      exception_count = m;
      exceptions = replicate 65 (record { directive = 1; block = widest sizes });
    }

pub small_limits : (rules_in_form sizes (many_rules 64) ≡ true)
    × (rules_in_form sizes (many_rules 65) ≡ false)
    × (policy_in_form sizes (many_directives 32 64) ≡ true)
    × (policy_in_form sizes (many_directives 33 64) ≡ false)
    × (policy_in_form sizes (many_directives 32 65) ≡ false)
unfolding rules_in_form policy_in_form exceptions_in_form inside_of inside block_in_form numbered all_of
small_limits = (refl, refl, refl, refl, refl)
