-- Sets that are not refused are in form, so within their limits. Assumes nothing.
use mathlib.Core.Path.{◌≡◌, refl}
use mathlib.Core.Bool.{Bool, true, false, cond}
use native.Mathlib.Omega.{arith}
use lib.Dec.{T}
use Rattle.meaning.specs.Fields.{fields}
use Rattle.meaning.specs.Form as form
use Rattle.meaning.proofs.Tests.{passed}
use Rattle.meaning.proofs.FormLaws.{rules_in_form_iff, policy_in_form_iff}
use Rattle.sets.specs.declared.Policy.{Policy}
use Rattle.sets.specs.declared.Rules.{Rules}
use Rattle.sets.specs.Vocabulary.{rule_set_of, policy_set_of}
use Rattle.bounds.specs.SetBlocks.{Limited}
use Rattle.findings.specs.Found.{InForm}

-- of two refusals neither was made
neither : (a b : Bool) → (form.or_else (cond a form.unrefused (form.out_of_form 1)) (cond b form.unrefused (form.out_of_form 2))).number ≡ 0 → T a × T b
unfolding form.or_else
neither true true e = (tt, tt)
neither true false e = absurd (omega arith)
neither false b e = absurd (omega arith)

module _ (rules : Rules) (policy : Policy) (formed : InForm rules policy) where
  both_in_form : T (form.rules_in_form fields (rule_set_of rules)) × T (form.policy_in_form fields (policy_set_of policy))
  unfolding form.refuse_sets form.refuse_rules form.refuse_policy
  both_in_form = neither (form.rules_in_form fields (rule_set_of rules)) (form.policy_in_form fields (policy_set_of policy)) formed

  pub in_form_limited : Limited rules policy
  in_form_limited =
      let p = (policy_in_form_iff fields (policy_set_of policy)).0 both_in_form.1 in
      record { few_rules = ((rules_in_form_iff fields (rule_set_of rules)).0 both_in_form.0).0; few_directives = p.0; few_exceptions = p.1 }

  pub in_form_no_refusal : form.refuse_sets fields (rule_set_of rules) (policy_set_of policy) ≡ form.unrefused
  unfolding form.refuse_sets form.refuse_rules form.refuse_policy form.or_else
  in_form_no_refusal =
      rw (passed (form.rules_in_form fields (rule_set_of rules)) both_in_form.0, passed (form.policy_in_form fields (policy_set_of policy)) both_in_form.1) refl
