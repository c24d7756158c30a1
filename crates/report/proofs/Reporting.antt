-- What is printed for two texts, case by case. Assumes nothing.
use mathlib.Core.Path.{◌≡◌, refl, sym, ap, ◌∙◌, subst}
use mathlib.Core.List.{List}
use Prim.Native.Nat.{ℕ}
use Rattle.std.specs.Prelude.{Option, Some, None, Result}
use Rattle.std.specs.Borrow.{Bor}
use Rattle.meaning.specs.Form.{refuse_sets, or_else}
use Rattle.sets.specs.Vocabulary.{refused_of}
use Rattle.sets.specs.declared.Policy.{Policy}
use Rattle.sets.specs.declared.Refusal.{Refusal}
use Rattle.sets.specs.declared.Rules.{Rules}
use Rattle.rule_text.specs.RuleTexts.{read_rules, rules_told}
use Rattle.rule_text.proofs.Formed.{rules_read_in_form}
use Rattle.policy_text.specs.PolicyTexts.{read_policy, policy_told}
use Rattle.policy_text.proofs.Formed.{policy_read_in_form}
use Rattle.printing.specs.Lines.{refused_line, unreadable_line}
use Rattle.putting.specs.declared.Output.{Output}
use Rattle.putting.specs.Putting.{PutOn}
use Rattle.putting.proofs.Putting.{on_same}
use Rattle.findings.specs.Found.{InForm}
use Rattle.report.specs.Inner.{FilesPut, SetsPut}
use Rattle.report.specs.Runs.{SetsPrinted, file_of, holding, rules_name, policy_name}

-- sets that were read are in form
in_form_lem : (rules policy : List ℕ) → InForm (rules_told (read_rules rules)) (policy_told (read_policy policy))
unfolding refuse_sets or_else
in_form_lem rules policy = λ i. (or_else (rules_read_in_form rules i) (policy_read_in_form policy i)).number

module _ (rules policy : List ℕ) {table : Result Rules Refusal} (read : table ≡ read_rules rules) where
  -- the rules are refused
  pub rules_refused_put : {before after : Output} → ¬ ((refused_of table).number ≡ 0)
      → PutOn before (refused_line rules_name (refused_of table)) after
      → FilesPut (holding rules) (holding policy) before after
  rules_refused_put some p =
      let some' : ¬ ((refused_of (read_rules rules)).number ≡ 0) = λ none. some (ap (λ (t : Result Rules Refusal). (refused_of t).number) read ∙ none) in
      record {
        text = refused_line rules_name (refused_of (read_rules rules));
        printed =
            record {
              rules_refused = λ x. refl;
              policy_refused = λ none x. absurd (some' none);
              both_read = λ none x. absurd (some' none);
            };
        put = on_same (ap (λ (t : Result Rules Refusal). refused_line rules_name (refused_of t)) read) p;
      }

  module _ {asked : Result Policy Refusal} (none : (refused_of table).number ≡ 0) (other : asked ≡ read_policy policy) where
    none' : (refused_of (read_rules rules)).number ≡ 0
    none' = sym (ap (λ (t : Result Rules Refusal). (refused_of t).number) read) ∙ none

    -- only the policy is refused
    pub policy_refused_put : {before after : Output} → ¬ ((refused_of asked).number ≡ 0)
        → PutOn before (refused_line policy_name (refused_of asked)) after
        → FilesPut (holding rules) (holding policy) before after
    policy_refused_put some p =
        let some' : ¬ ((refused_of (read_policy policy)).number ≡ 0) = λ zero. some (ap (λ (t : Result Policy Refusal). (refused_of t).number) other ∙ zero) in
        record {
          text = refused_line policy_name (refused_of (read_policy policy));
          printed =
              record {
                rules_refused = λ x. absurd (x none');
                policy_refused = λ x y. refl;
                both_read = λ x zero. absurd (some' zero);
              };
          put = on_same (ap (λ (t : Result Policy Refusal). refused_line policy_name (refused_of t)) other) p;
        }

    -- both are read, and in form
    pub sets_in_form : InForm (rules_told table) (policy_told asked)
    sets_in_form =
        subst (λ (t : Result Rules Refusal). InForm (rules_told t) (policy_told asked)) (sym read)
        (subst (λ (t : Result Policy Refusal). InForm (rules_told (read_rules rules)) (policy_told t)) (sym other) (in_form_lem rules policy))

    pub sets_put : {before after : Output} → (refused_of asked).number ≡ 0 → SetsPut (rules_told table) (policy_told asked) before after
        → FilesPut (holding rules) (holding policy) before after
    sets_put zero p =
        let zero' : (refused_of (read_policy policy)).number ≡ 0 = sym (ap (λ (t : Result Policy Refusal). (refused_of t).number) other) ∙ zero in
        record {
          text = p.text;
          printed =
              record {
                rules_refused = λ x. absurd (x none');
                policy_refused = λ x some. absurd (some zero');
                both_read = λ x y. (
                    subst (λ (t : Result Rules Refusal). SetsPrinted (rules_told t) (policy_told (read_policy policy)) p.text) read
                    (subst (λ (t : Result Policy Refusal). SetsPrinted (rules_told table) (policy_told t) p.text) other p.printed)
                    );
              };
          put = p.put;
        }

-- files by what was read of them
module _ {first second : Option (Bor (List ℕ))} {before after : Output} where
  pub files_read : (rules policy : Bor (List ℕ)) → first ≡ Some rules → second ≡ Some policy
      → FilesPut (holding rules.now) (holding policy.now) before after → FilesPut (file_of first) (file_of second) before after
  files_read rules policy one two p =
      subst (λ (f : Option (Bor (List ℕ))). FilesPut (file_of f) (file_of second) before after) (sym one)
      (subst (λ (f : Option (Bor (List ℕ))). FilesPut (holding rules.now) (file_of f) before after) (sym two) p)

  pub policy_unread : (rules : Bor (List ℕ)) → first ≡ Some rules → second ≡ None → PutOn before (unreadable_line policy_name) after
      → FilesPut (file_of first) (file_of second) before after
  policy_unread rules one two p =
      subst (λ (f : Option (Bor (List ℕ))). FilesPut (file_of f) (file_of second) before after) (sym one)
      (subst (λ (f : Option (Bor (List ℕ))). FilesPut (holding rules.now) (file_of f) before after) (sym two)
      (record { text = unreadable_line policy_name; printed = refl; put = p }))

pub rules_unread : (second : Option (Bor (List ℕ))) {first : Option (Bor (List ℕ))} {before after : Output} → first ≡ None → PutOn before (unreadable_line rules_name) after
    → FilesPut (file_of first) (file_of second) before after
rules_unread second {before = before} {after = after} one p =
    subst (λ (f : Option (Bor (List ℕ))). FilesPut (file_of f) (file_of second) before after) (sym one)
    (record { text = unreadable_line rules_name; printed = refl; put = p })
