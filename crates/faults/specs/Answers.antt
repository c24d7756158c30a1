-- What the answers of this crate stand for, and what its calls answer.
use Rattle.std.specs.Prelude.{Option, None, Result, IfSome, List, ◌≡◌, ℕ}
use Rattle.meaning.specs.Fields.{fields}
use Rattle.meaning.specs.Form as form
use Rattle.meaning.specs.Verdicts as verdicts
use Rattle.sets.specs.declared.Policy.{Policy}
use Rattle.sets.specs.declared.Refusal.{Refusal}
use Rattle.sets.specs.declared.Rules.{Rules}
use Rattle.sets.specs.Vocabulary.{rule_set_of, policy_set_of, refused_of, told_or}
use Rattle.findings.specs.Found.{AtFault, VerdictFor, ListingTold}
use Rattle.findings.specs.Found as findings
use Rattle.findings.specs.declared.Finding.{Finding}

-- what both calls refuse
abbrev pub refused : Rules → Policy → form.Refusal
refused rules policy = form.refuse_sets fields (rule_set_of rules) (policy_set_of policy)

-- the verdict that an answer tells: conforms beside a refusal, so zeros
abbrev pub verdict_of : Result (Option Finding) Refusal → verdicts.Verdict
verdict_of r = findings.verdict_of (told_or None r)

-- what the verdict call answers: "14 with zeros elsewhere", or the verdict
pub record JudgedAs (rules : Rules) (policy : Policy) (r : Result (Option Finding) Refusal) : Type 0 where
  pub refusal : refused_of r ≡ refused rules policy
  pub judged : (refused rules policy).number ≡ 0 → VerdictFor rules policy (verdict_of r)
  pub at_fault : IfSome (told_or None r) AtFault
  pub zeros : ¬ ((refused rules policy).number ≡ 0) → verdict_of r ≡ verdicts.conforms fields

-- what the listing call answers, and what it leaves in the buffer: "14, with the buffer untouched", or the listing
pub record ListedAs (rules : Rules) (policy : Policy) (before after : List ℕ) (r : Result ℕ Refusal) : Type 0 where
  pub refusal : refused_of r ≡ refused rules policy
  pub told : (refused rules policy).number ≡ 0 → ListingTold rules policy before after (told_or 0 r)
  pub zeros : ¬ ((refused rules policy).number ≡ 0) → (told_or 0 r ≡ 0) × (after ≡ before)
