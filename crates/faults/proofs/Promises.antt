-- What the two calls promise of every packet. Assumes nothing.
use mathlib.Core.Path.{◌≡◌}
use mathlib.Core.Logic.{◌↔◌}
use mathlib.Core.List.{List, []}
use Prim.Native.Nat.{ℕ, ◌≤◌}
use native.Mathlib.Decide.{ℕ_discrete}
use native.Mathlib.Omega.{arith}
use Rattle.std.specs.Prelude.{Option, Result}
use Rattle.meaning.specs.Conformance.{Consistent, Sound, Complete}
use Rattle.meaning.specs.Fields.{Packet, InRange, fields}
use Rattle.meaning.specs.Form.{table_of, policy_of}
use Rattle.meaning.specs.Labels.{good, kind}
use Rattle.meaning.specs.Listings.{told, Tells}
use Rattle.meaning.specs.Sizes.{most_listed}
use Rattle.meaning.proofs.Demands.{each_fault_told_once, same_listing_iff_same_labels}
use Rattle.meaning.proofs.VerdictConforms.{conforms_said_iff}
use Rattle.sets.specs.declared.Policy.{Policy}
use Rattle.sets.specs.declared.Refusal.{Refusal}
use Rattle.sets.specs.declared.Rules.{Rules}
use Rattle.sets.specs.Vocabulary.{rule_set_of, policy_set_of, told_or}
use Rattle.findings.specs.Found.{label_at, ListingTold}
use Rattle.faults.specs.Answers.{refused, verdict_of, JudgedAs, ListedAs}
use Rattle.findings.specs.declared.Finding.{Finding}

-- "Conforms" is said exactly if the policy is consistent and the table sound and complete for it.
pub verdict_conforms_iff : (rules : Rules) (policy : Policy) (r : Result (Option Finding) Refusal)
    → JudgedAs rules policy r
    → (refused rules policy).number ≡ 0
    → (kind (verdict_of r).label ≡ 0)
    ↔ (Consistent fields (policy_of (policy_set_of policy))
    × Sound fields (table_of (rule_set_of rules)) (policy_of (policy_set_of policy))
    × Complete fields (table_of (rule_set_of rules)) (policy_of (policy_set_of policy)))
verdict_conforms_iff rules policy r a formed =
    conforms_said_iff fields (table_of (rule_set_of rules)) (policy_of (policy_set_of policy)) (verdict_of r) (a.judged formed)

-- Each packet at fault lies in exactly one block of the listing told, which carries its kind and rule; no other packet lies in any.
pub listing_tells_each : (rules : Rules) (policy : Policy) (before after : List ℕ) (total : ℕ) (t : ListingTold rules policy before after total)
    → ((p : Packet) → InRange fields p → Tells good (label_at rules policy p) (told p t.blocks))
    × ((p : Packet) → ¬ InRange fields p → told p t.blocks ≡ [])
listing_tells_each rules policy before after total t =
    each_fault_told_once fields (table_of (rule_set_of rules)) (policy_of (policy_set_of policy)) t.blocks t.listed

-- Two pairs of sets have the same listing exactly if every packet has the same kind and rule in both.
pub listings_same_iff : (rules others : Rules) (policy other : Policy) (before after before' after' : List ℕ) (total total' : ℕ)
    (t : ListingTold rules policy before after total)
    (u : ListingTold others other before' after' total')
    → (t.blocks ≡ u.blocks) ↔ ((p : Packet) → InRange fields p → label_at rules policy p ≡ label_at others other p)
listings_same_iff rules others policy other before after before' after' total total' t u =
    same_listing_iff_same_labels fields (table_of (rule_set_of rules)) (table_of (rule_set_of others))
    (policy_of (policy_set_of policy)) (policy_of (policy_set_of other)) t.blocks u.blocks t.listed u.listed

-- The total is at most 10,617,447,681, whatever the sets.
pub listing_few : (rules : Rules) (policy : Policy) (before after : List ℕ) (r : Result ℕ Refusal)
    → ListedAs rules policy before after r
    → told_or 0 r ≤ most_listed
listing_few rules policy before after r a =
    elim (ℕ_discrete (refused rules policy).number 0) [ yes e ↦ (a.told e).few | no e ↦ omega (arith, (a.zeros e).0) ]
