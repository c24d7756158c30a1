-- What a policy text is read as is in form and zero past its counts; a refused one is read as the empty set. Assumes nothing.
use mathlib.Core.Bool.{true}
use mathlib.Core.List.{List, [], ◌∷◌, map, map-append}
use mathlib.Core.Option.{some}
use mathlib.Core.Path.{◌≡◌, refl, ap, sym, subst, ◌∙◌}
use native.Mathlib.Omega.{arith}
use Rattle.std.specs.Prelude.{None, Some, Result, Ok, Err}
use Prim.Native.Nat.{ℕ, ◌≤◌, ◌<◌}
use lib.Dec.{T}
use lib.ListN.{length, length-append}
use Rattle.meaning.specs.Blocks.{inside}
use Rattle.meaning.specs.Fields.{fields}
use Rattle.meaning.specs.Form as form
use Rattle.meaning.specs.Form.{most_directives, most_exceptions, unrefused, block_in_form, exceptions_in_form, refuse_policy}
use Rattle.meaning.specs.Records.{all_of, numbered}
use Rattle.meaning.specs.Rules.{Rule}
use Rattle.meaning.proofs.FormGrowing.{last_named, last_named_lem, directive_added, exception_added}
use Rattle.meaning.proofs.Tests.{passed, passes}
use Rattle.blocks.specs.Vocabulary.{block_of}
use Rattle.blocks.specs.declared.Block.{Block}
use Rattle.sets.specs.Empty.{empty_policy, PolicyZeroPast}
use Rattle.sets.specs.Inner.{in_form}
use Rattle.sets.specs.Listed.{policy_set}
use Rattle.sets.specs.Vocabulary.{directive_of, exception_of, policy_set_of, refused_of}
use Rattle.sets.specs.declared.Directive.{Directive}
use Rattle.sets.specs.declared.Exception.{Exception}
use Rattle.sets.specs.declared.Policy.{Policy}
use Rattle.sets.specs.declared.Refusal.{Refusal}
use Rattle.sets.proofs.Padding.{nothing_asked_lem, policy_zero, policy_unrefused, all_more}
use Rattle.texts.specs.Texts.{goes, stops}
use Rattle.texts.proofs.Reading.{Keeps, kept, answered}
use Rattle.policy_text.specs.PolicyTexts.{policy_line, Asked, nothing_asked, nearest, ask, but, on_policy_line, said_policy}
use Rattle.policy_text.specs.PolicyTexts.{all_asked, none_asked, read_policy, policy_told}
use Rattle.policy_text.specs.declared.PolicyLine.TheVariants.{Ask, But}
use Rattle.policy_text.proofs.PolicyReading.{Line, SaidRight, said_right}

-- what every line keeps: not too many records, all in form, and no exception names a directive that is still to come
record Kept (s : Asked) : Type 0 where
  pub few_asked : length s.directives ≤ most_directives
  pub few_excepted : length s.exceptions ≤ most_exceptions
  pub asked_in_form : all_of in_form (map directive_of s.directives) ≡ true
  pub excepted_in_form : T (exceptions_in_form fields (map directive_of s.directives) 0 (map exception_of s.exceptions))
  pub named_so_far : last_named 0 (map exception_of s.exceptions) ≤ length s.directives

-- the directive whose number is their count is the nearest
nearest_numbered : (ds : List Directive) → 0 < length ds
    → (d : Rule) × (numbered (map directive_of ds) (length ds) ≡ some d) × (d.block ≡ block_of (nearest ds))
unfolding numbered
nearest_numbered [] h = absurd (omega arith)
nearest_numbered (d ∷ []) h = (directive_of d, refl, refl)
nearest_numbered (d ∷ e ∷ ds) h = nearest_numbered (e ∷ ds) (omega arith)

kept_ask : (s : Asked) (d : Directive) → Kept s → length s.directives < most_directives → in_form (directive_of d) ≡ true → Kept (ask s d)
kept_ask s d h spare formed =
    record {
      few_asked = omega (arith, length-append s.directives (d ∷ []));
      few_excepted = h.few_excepted;
      asked_in_form = all_more directive_of in_form s.directives d h.asked_in_form formed;
      excepted_in_form =
          subst (λ (ds : List Rule). T (exceptions_in_form fields ds 0 (map exception_of s.exceptions))) (sym (map-append directive_of s.directives (d ∷ [])))
          (directive_added fields (map directive_of s.directives) (directive_of d) 0 (map exception_of s.exceptions) h.excepted_in_form);
      named_so_far = omega (arith, h.named_so_far, length-append s.directives (d ∷ []));
    }

kept_but : (s : Asked) (b : Block) → Kept s → 0 < length s.directives → length s.exceptions < most_exceptions
    → inside (block_of b) (block_of (nearest s.directives)) ≡ true → block_in_form fields (block_of b) ≡ true → Kept (but s b)
kept_but s b h some_asked spare lies formed =
    let e : Exception = record { directive = length s.directives; block = b } in
    let last = nearest_numbered s.directives some_asked in
    let more = map-append exception_of s.exceptions (e ∷ []) in
    record {
      few_asked = h.few_asked;
      few_excepted = omega (arith, length-append s.exceptions (e ∷ []));
      asked_in_form = h.asked_in_form;
      excepted_in_form =
          subst (λ (es : List form.Exception). T (exceptions_in_form fields (map directive_of s.directives) 0 es)) (sym more)
          (exception_added fields (map directive_of s.directives) 0 (map exception_of s.exceptions) (exception_of e) last.0
          h.excepted_in_form h.named_so_far last.1 (passes _ (ap (inside (block_of b)) last.2 ∙ lies)) (passes _ formed));
      named_so_far =
          subst (λ (es : List form.Exception). last_named 0 es ≤ length s.directives) (sym more)
          (subst (λ (n : ℕ). n ≤ length s.directives) (sym (last_named_lem 0 (map exception_of s.exceptions) (exception_of e))) (omega arith));
    }

module _ (s : Asked) where
  abbrev asked : ℕ
  asked = length s.directives

  abbrev excepted : ℕ
  excepted = length s.exceptions

  abbrev above : Block
  above = nearest s.directives

  keeps : (line : List ℕ) → Kept s → Keeps Kept (said_policy s line)
  keeps line h = go (policy_line asked excepted above line) (said_right asked excepted above line)
    where
      go : (o : Line) → SaidRight asked excepted above o → Keeps Kept (on_policy_line o (goes s) (λ d. goes (ask s d)) (λ b. goes (but s b)) stops)
      go (Ok None) e = h
      go (Ok (Some (Ask d))) e = kept_ask s d h e.0 e.1
      go (Ok (Some (But b))) e = kept_but s b h e.0 e.1 e.2 e.3
      go (Err r) e = tt

-- 14 never applies to what was read, and it is zero past its counts
abbrev Right : Result Policy Refusal → Type 0
Right r = (refuse_policy fields (policy_set_of (policy_told r)) ≡ unrefused) × PolicyZeroPast (policy_told r)

right : (s : Asked) → Kept s → Right (Ok (policy_set s.directives s.exceptions))
right s h = (
  policy_unrefused s.directives s.exceptions h.few_asked h.few_excepted h.asked_in_form (passed _ h.excepted_in_form),
  policy_zero s.directives s.exceptions h.few_asked h.few_excepted,
)

none_kept : Kept nothing_asked
unfolding all_of exceptions_in_form
none_kept = record { few_asked = omega arith; few_excepted = omega arith; asked_in_form = refl; excepted_in_form = tt; named_so_far = omega arith }

read_right : (text : List ℕ) → Right (read_policy text)
unfolding read_policy
read_right text = kept said_policy all_asked none_asked Kept Right keeps right (λ s r. right nothing_asked none_kept) nothing_asked text none_kept

pub policy_read_in_form : (text : List ℕ) → refuse_policy fields (policy_set_of (policy_told (read_policy text))) ≡ unrefused
policy_read_in_form text = (read_right text).0

pub policy_read_zero_past : (text : List ℕ) → PolicyZeroPast (policy_told (read_policy text))
policy_read_zero_past text = (read_right text).1

-- a refused reading hands back the empty set
abbrev Empty : Result Policy Refusal → Type 0
Empty r = ((refused_of r).number ≡ 0 → ⊥) → policy_told r ≡ empty_policy

pub policy_refused_empty : (text : List ℕ) → ((refused_of (read_policy text)).number ≡ 0 → ⊥) → policy_told (read_policy text) ≡ empty_policy
unfolding read_policy
policy_refused_empty text = answered said_policy all_asked none_asked Empty (λ s some. absurd (some refl)) (λ s r some. nothing_asked_lem) nothing_asked text
