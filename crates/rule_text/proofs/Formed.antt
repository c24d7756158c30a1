-- What a rule text is read as is in form and zero past its count; a refused one is read as the empty set. Assumes nothing.
use mathlib.Core.Bool.{true}
use mathlib.Core.List.{List, [], ◌∷◌, ◌++◌, map}
use mathlib.Core.Path.{◌≡◌, refl}
use native.Mathlib.Omega.{arith}
use Rattle.std.specs.Prelude.{Option, None, Some, Result, Ok, Err}
use Prim.Native.Nat.{ℕ, ◌≤◌}
use lib.ListN.{length, length-append}
use Rattle.meaning.specs.Fields.{fields}
use Rattle.meaning.specs.Form.{most_rules, unrefused, refuse_rules}
use Rattle.meaning.specs.Records.{all_of}
use Rattle.sets.specs.Empty.{empty_rules, RulesZeroPast}
use Rattle.sets.specs.Inner.{in_form}
use Rattle.sets.specs.Listed.{rule_set}
use Rattle.sets.specs.Vocabulary.{rule_of, rule_set_of, refused_of}
use Rattle.sets.specs.declared.Refusal.{Refusal}
use Rattle.sets.specs.declared.Rule.{Rule}
use Rattle.sets.specs.declared.Rules.{Rules}
use Rattle.sets.proofs.Padding.{no_rules_lem, rules_zero, rules_unrefused, all_more}
use Rattle.texts.specs.Texts.{goes, stops}
use Rattle.texts.proofs.Reading.{Keeps, kept, answered}
use Rattle.records.specs.declared.FieldRefusal.{FieldRefusal}
use Rattle.rule_text.specs.RuleTexts.{rule_line, on_rule_line, said_rule, all_rules, no_rules, read_rules, rules_told}
use Rattle.rule_text.proofs.RuleReading.{SaidRight, said_right}

-- what every line keeps: not too many rules, all in form
abbrev Kept : List Rule → Type 0
Kept rs = (length rs ≤ most_rules) × (all_of in_form (map rule_of rs) ≡ true)

keeps : (rs : List Rule) (line : List ℕ) → Kept rs → Keeps Kept (said_rule rs line)
keeps rs line h = go (rule_line (length rs) line) (said_right (length rs) line)
  where
    go : (o : Result (Option Rule) FieldRefusal) → SaidRight (length rs) o → Keeps Kept (on_rule_line o (goes rs) (λ r. goes (rs ++ (r ∷ []))) stops)
    go (Ok None) e = h
    go (Ok (Some r)) e = (omega (arith, e.0, length-append rs (r ∷ [])), all_more rule_of in_form rs r h.1 e.1)
    go (Err r) e = tt

-- 14 never applies to what was read, and it is zero past its count
abbrev Right : Result Rules Refusal → Type 0
Right r = (refuse_rules fields (rule_set_of (rules_told r)) ≡ unrefused) × RulesZeroPast (rules_told r)

right : (rs : List Rule) → Kept rs → Right (Ok (rule_set rs))
right rs h = (rules_unrefused rs h.0 h.1, rules_zero rs h.0)

none_kept : Kept []
unfolding all_of
none_kept = (omega arith, refl)

read_right : (text : List ℕ) → Right (read_rules text)
unfolding read_rules
read_right text = kept said_rule all_rules no_rules Kept Right keeps right (λ rs r. right [] none_kept) [] text none_kept

pub rules_read_in_form : (text : List ℕ) → refuse_rules fields (rule_set_of (rules_told (read_rules text))) ≡ unrefused
rules_read_in_form text = (read_right text).0

pub rules_read_zero_past : (text : List ℕ) → RulesZeroPast (rules_told (read_rules text))
rules_read_zero_past text = (read_right text).1

-- a refused reading hands back the empty set
abbrev Empty : Result Rules Refusal → Type 0
Empty r = ((refused_of r).number ≡ 0 → ⊥) → rules_told r ≡ empty_rules

pub rules_refused_empty : (text : List ℕ) → ((refused_of (read_rules text)).number ≡ 0 → ⊥) → rules_told (read_rules text) ≡ empty_rules
unfolding read_rules
rules_refused_empty text = answered said_rule all_rules no_rules Empty (λ rs some. absurd (some refl)) (λ rs r some. no_rules_lem) [] text
