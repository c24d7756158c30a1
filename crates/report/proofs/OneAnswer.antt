-- For the public call: its contract leaves one output, and of the lent buffer one content. Assumes nothing.
use mathlib.Core.Path.{◌≡◌, sym, ap, ◌∙◌}
use mathlib.Core.List.{List, ◌++◌}
use Prim.Native.Nat.{ℕ, ◌+◌, min, max}
use native.Mathlib.Decide.{ℕ_discrete}
use lib.ListN.{length, take}
use lib.Seq.{sets}
use Rattle.meaning.specs.Fields.{fields}
use Rattle.meaning.specs.Form.{table_of, policy_of}
use Rattle.meaning.specs.Policies.{lowest_asking}
use Rattle.meaning.proofs.Demands.{fault_listing_is_unique}
use Rattle.meaning.proofs.VerdictUnique.{verdict_is_unique}
use Rattle.contracts.specs.Answers.{OneOutcome}
use Rattle.sets.specs.declared.Policy.{Policy}
use Rattle.sets.specs.declared.Rules.{Rules}
use Rattle.sets.specs.Vocabulary.{refused_of, rule_set_of, policy_set_of}
use Rattle.rule_text.specs.RuleTexts.{read_rules, rules_told}
use Rattle.policy_text.specs.PolicyTexts.{read_policy, policy_told}
use Rattle.findings.specs.Found.{label_at}
use Rattle.printing.specs.Lines.{verdict_line, blocks_line}
use Rattle.report.specs.Runs.{File, unreadable, holding, SetsPrinted, TextsPrinted, Printed, Reported, most_block_lines, block_lines}
use Rattle.report.proofs.report.Reads as report_call

-- one verdict and one listing, so one text
one_for_sets : (rules : Rules) (policy : Policy) (s t : List ℕ) → SetsPrinted rules policy s → SetsPrinted rules policy t → s ≡ t
one_for_sets rules policy s t p q =
    let v = verdict_is_unique fields (label_at rules policy) (lowest_asking (policy_of (policy_set_of policy))) p.judged q.judged in
    let bs = fault_listing_is_unique fields (table_of (rule_set_of rules)) (policy_of (policy_set_of policy)) p.blocks q.blocks p.listed q.listed in
    p.printed
    ∙ (λ i. verdict_line (v i) ++ (blocks_line (length (bs i)) ++ block_lines (take most_block_lines (bs i))))
    ∙ sym q.printed

one_for_texts : (rules policy s t : List ℕ) → TextsPrinted rules policy s → TextsPrinted rules policy t → s ≡ t
one_for_texts rules policy s t p q =
    elim (ℕ_discrete (refused_of (read_rules rules)).number 0) [
      | yes none ↦ elim (ℕ_discrete (refused_of (read_policy policy)).number 0) [
        | yes zero ↦ one_for_sets (rules_told (read_rules rules)) (policy_told (read_policy policy)) s t (p.both_read none zero) (q.both_read none zero)
        | no some ↦ p.policy_refused none some ∙ sym (q.policy_refused none some)
      ]
      | no some ↦ p.rules_refused some ∙ sym (q.rules_refused some)
    ]

-- One output for two files.
pub one_text : (rules policy : File) (s t : List ℕ) → Printed rules policy s → Printed rules policy t → s ≡ t
one_text unreadable policy s t p q = p ∙ sym q
one_text (holding rules) unreadable s t p q = p ∙ sym q
one_text (holding rules) (holding policy) s t p q = one_for_texts rules policy s t p q

one_report : (rules policy : File) (before after after' : List ℕ) (r s : ℕ) → Reported rules policy before after r → Reported rules policy before after' s
    → (r ≡ s) × (after ≡ after')
one_report rules policy before after after' r s p q =
    let same = one_text rules policy p.text q.text p.printed q.printed in (
      p.put.behind ∙ ap (λ (t : List ℕ). max 0 (min (0 + length t) (length before))) same ∙ sym q.put.behind,
      p.put.stored ∙ ap (sets before 0) same ∙ sym q.put.stored,
    )

pub report_once : OneOutcome (λ after. after.1.1.0.now) (report_call.Post)
report_once κs a r s after after' e f = one_report _ _ _ _ _ r s e f
