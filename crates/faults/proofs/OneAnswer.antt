-- For each public call: its contract leaves one answer, and of a lent buffer one content. Assumes nothing.
use mathlib.Core.Path.{◌≡◌, refl, sym, ap, ◌∙◌}
use mathlib.Core.List.{List}
use Prim.Native.Nat.{ℕ}
use native.Mathlib.Decide.{ℕ_discrete}
use lib.ListN.{length}
use Rattle.std.specs.Option.{unwrap_or}
use Rattle.std.specs.Prelude.{Option, Some, None, Result, IfSome}
use Rattle.meaning.specs.Buffers as buffers
use Rattle.meaning.specs.Fields.{fields}
use Rattle.meaning.specs.Form.{table_of, policy_of}
use Rattle.meaning.specs.Labels as labels
use Rattle.meaning.specs.Listings as listings
use Rattle.meaning.specs.Policies.{lowest_asking}
use Rattle.meaning.specs.Verdicts.{Verdict}
use Rattle.meaning.proofs.Demands.{fault_listing_is_unique}
use Rattle.meaning.proofs.VerdictUnique.{verdict_is_unique}
use Rattle.contracts.specs.Answers.{OneAnswer, OneOutcome}
use Rattle.blocks.proofs.OneAnswer.{one_packet}
use Rattle.sets.specs.declared.Policy.{Policy}
use Rattle.sets.specs.declared.Refusal.{Refusal}
use Rattle.sets.specs.declared.Rules.{Rules}
use Rattle.sets.specs.Vocabulary.{rule_set_of, policy_set_of, told_or}
use Rattle.sets.proofs.OneAnswer.{one_told}
use Rattle.labels.proofs.OneAnswer.{one_label}
use Rattle.findings.specs.Found as findings
use Rattle.findings.specs.Found.{label_at, AtFault}
use Rattle.findings.specs.declared.Finding.{Finding}
use Rattle.faults.specs.Answers.{refused, verdict_of, JudgedAs, ListedAs}
use Rattle.faults.proofs.listing.Reads as listing_call
use Rattle.faults.proofs.verdict.Reads as verdict_call

one_verdict : (rules : Rules) (policy : Policy) (r s : Result (Option Finding) Refusal)
    → JudgedAs rules policy r
    → JudgedAs rules policy s
    → verdict_of r ≡ verdict_of s
one_verdict rules policy r s a b =
    elim (ℕ_discrete (refused rules policy).number 0) [
      | yes e ↦ verdict_is_unique fields (label_at rules policy) (lowest_asking (policy_of (policy_set_of policy))) (a.judged e) (b.judged e)
      | no e ↦ a.zeros e ∙ sym (b.zeros e)
    ]

-- one number told, as no directive has the number 0
one_number : (a b : Option ℕ) → ¬ (a ≡ Some 0) → ¬ (b ≡ Some 0) → unwrap_or a 0 ≡ unwrap_or b 0 → a ≡ b
one_number None None h k e = refl
one_number None (Some n) h k e = absurd (k (ap Some (sym e)))
one_number (Some m) None h k e = absurd (h (ap Some e))
one_number (Some m) (Some n) h k e = ap Some e

-- one finding, as what is found is at fault and so no conforming
one_finding : (r s : Option Finding) → IfSome r AtFault → IfSome s AtFault → findings.verdict_of r ≡ findings.verdict_of s → r ≡ s
one_finding None None h k e = refl
one_finding None (Some g) h k e = absurd (k.label (sym (ap (λ (v : Verdict). v.label) e)))
one_finding (Some f) None h k e = absurd (h.label (ap (λ (v : Verdict). v.label) e))
one_finding (Some f) (Some g) h k e =
    λ i.
    Some
    (record {
      label = one_label _ f.label g.label (ap (λ (v : Verdict). v.label) e) refl i;
      accept_directive = one_number f.accept_directive g.accept_directive h.accept_directive k.accept_directive (ap (λ (v : Verdict). v.accept_directive) e) i;
      deny_directive = one_number f.deny_directive g.deny_directive h.deny_directive k.deny_directive (ap (λ (v : Verdict). v.deny_directive) e) i;
      packet = one_packet _ f.packet g.packet (ap (λ (v : Verdict). v.packet) e) refl i;
    })

pub verdict_once : OneAnswer (verdict_call.Post)
verdict_once κs a r s after after' e f =
    one_told None _ (told_or None s) r s e.refusal f.refusal
    (one_finding (told_or None r) (told_or None s) e.at_fault f.at_fault (one_verdict _ _ r s e f)) refl

-- one listing, so one total and one content of the buffer
one_telling : (rules : Rules) (policy : Policy) (before after after' : List ℕ) (r s : Result ℕ Refusal)
    → ListedAs rules policy before after r
    → ListedAs rules policy before after' s
    → (told_or 0 r ≡ told_or 0 s) × (after ≡ after')
one_telling rules policy before after after' r s a b =
    elim (ℕ_discrete (refused rules policy).number 0) [
      | yes e ↦
          let t = a.told e in
          let u = b.told e in
          let table = table_of (rule_set_of rules) in
          let same = fault_listing_is_unique fields table (policy_of (policy_set_of policy)) t.blocks u.blocks t.listed u.listed in
          let same_written = ap (λ (bs : List (listings.Listed labels.Label)). buffers.written fields bs before) same in
          (t.counted ∙ ap length same ∙ sym u.counted, t.written ∙ same_written ∙ sym u.written)
      | no e ↦
          let t = a.zeros e in
          let u = b.zeros e in
          (t.0 ∙ sym u.0, t.1 ∙ sym u.1)
    ]

pub listing_once : OneOutcome (λ after. after.1.1.0.now) (listing_call.Post)
listing_once κs a r s after after' e f =
    let same = one_telling _ _ _ _ _ r s e f in
    (one_told 0 _ (told_or 0 s) r s e.refusal f.refusal same.0 refl, same.1)
