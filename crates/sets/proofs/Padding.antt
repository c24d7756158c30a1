-- Laws of records with zero records behind them, and of the sets made so. Assumes nothing.
use mathlib.Core.Bool.{Bool, true, false, ◌&&◌}
use mathlib.Core.List.{List, [], ◌∷◌, ◌++◌, map, map-append}
use mathlib.Core.Path.{◌≡◌, refl, ap, sym, ◌∙◌}
use native.Mathlib.Omega.{arith}
use Prim.Native.Nat.{ℕ, suc, ◌+◌, ◌-◌, ◌≤◌, ◌<◌}
use borrow.Author.Tests.{le-leb}
use lib.ListN.{length, take, set, replicate, length-append, length-map, length-replicate}
use lib.Seq.{set-append_seam, append_snoc, take-append_seam, drop-append_seam}
use Rattle.meaning.specs.Fields.{fields}
use Rattle.meaning.specs.Form.{most_rules, most_directives, most_exceptions, unrefused, rules_in_form, policy_in_form, exceptions_in_form, refuse_rules, refuse_policy}
use Rattle.meaning.specs.Records.{all_of}
use Rattle.sets.specs.Empty.{zero_rule, zero_directive, zero_exception, empty_rules, empty_policy, zero_past, RulesZeroPast, PolicyZeroPast}
use Rattle.sets.specs.Inner.{in_form}
use Rattle.sets.specs.Listed.{padded, rule_set, policy_set}
use Rattle.sets.specs.Vocabulary.{rule_of, directive_of, exception_of, rule_set_of, policy_set_of}
use Rattle.sets.specs.declared.Directive.{Directive}
use Rattle.sets.specs.declared.Exception.{Exception}
use Rattle.sets.specs.declared.Rule.{Rule}

module _ {A : Type 0} (n : ℕ) (z : A) where
  -- one record more is the one at the count set
  pub padded_set : (xs : List A) (x : A) → length xs < n → set (padded n z xs) (length xs) x ≡ padded n z (xs ++ (x ∷ []))
  padded_set xs x h =
      let left : n - length xs ≡ suc (n - (length xs + 1)) = omega arith in
      ap (λ (m : ℕ). set (xs ++ replicate m z) (length xs) x) left
      ∙ set-append_seam xs z (replicate (n - (length xs + 1)) z) x
      ∙ sym (append_snoc xs x (replicate (n - (length xs + 1)) z))
      ∙ ap (λ (m : ℕ). (xs ++ (x ∷ [])) ++ replicate (n - m) z) (sym (length-append xs (x ∷ [])))

  -- what lies past the count is zero
  pub padded_zero : (xs : List A) → length xs ≤ n → zero_past z (length xs) (padded n z xs)
  padded_zero xs h =
      let left : n - length xs ≡ length (padded n z xs) - length xs = omega (arith, length-append xs (replicate (n - length xs) z), length-replicate (n - length xs) z) in
      drop-append_seam xs (replicate (n - length xs) z) ∙ ap (λ (m : ℕ). replicate m z) left

-- what lies within the count is what was listed
pub padded_within : {A B : Type 0} (f : A → B) (n : ℕ) (z : A) (xs : List A) → take (length xs) (map f (padded n z xs)) ≡ map f xs
padded_within f n z xs =
    let front : length xs ≡ length (map f xs) = sym (length-map xs f) in
    ap (take (length xs)) (map-append f xs (replicate (n - length xs) z))
    ∙ ap (λ (k : ℕ). take k (map f xs ++ map f (replicate (n - length xs) z))) front
    ∙ take-append_seam (map f xs) (map f (replicate (n - length xs) z))

-- no records listed make the empty sets
pub no_rules_lem : rule_set [] ≡ empty_rules
no_rules_lem = refl

pub nothing_asked_lem : policy_set [] [] ≡ empty_policy
nothing_asked_lem = refl

-- a set of listed records is zero past its count
pub rules_zero : (rs : List Rule) → length rs ≤ most_rules → RulesZeroPast (rule_set rs)
rules_zero rs h = padded_zero _ _ rs h

pub policy_zero : (ds : List Directive) (es : List Exception) → length ds ≤ most_directives → length es ≤ most_exceptions → PolicyZeroPast (policy_set ds es)
policy_zero ds es g h = (padded_zero _ _ ds g, padded_zero _ _ es h)

-- a set of records in form, not too many, is in form: 14 does not apply to it
pub rules_unrefused : (rs : List Rule) → length rs ≤ most_rules → all_of in_form (map rule_of rs) ≡ true → refuse_rules fields (rule_set_of (rule_set rs)) ≡ unrefused
unfolding refuse_rules rules_in_form
rules_unrefused rs h e = simp (le-leb (length rs) most_rules h, padded_within rule_of most_rules zero_rule rs, e)

pub policy_unrefused : (ds : List Directive) (es : List Exception) → length ds ≤ most_directives → length es ≤ most_exceptions
    → all_of in_form (map directive_of ds) ≡ true → exceptions_in_form fields (map directive_of ds) 0 (map exception_of es) ≡ true
    → refuse_policy fields (policy_set_of (policy_set ds es)) ≡ unrefused
unfolding refuse_policy policy_in_form
policy_unrefused ds es g h d e =
    simp (
      le-leb (length ds) most_directives g,
      le-leb (length es) most_exceptions h,
      padded_within directive_of most_directives zero_directive ds,
      padded_within exception_of most_exceptions zero_exception es,
      d,
      e,
    )

-- one record more that passes a test
pub all_more : {A B : Type 0} (f : A → B) (test : B → Bool) (xs : List A) (x : A) → all_of test (map f xs) ≡ true → test (f x) ≡ true → all_of test (map f (xs ++ (x ∷ []))) ≡ true
unfolding all_of
all_more f test [] x h e = simp e
all_more f test (y ∷ ys) x h e = go (test (f y)) (all_of test (map f ys)) h (λ g. all_more f test ys x g e)
  where
    go : (a b : Bool) → (a && b) ≡ true → (b ≡ true → all_of test (map f (ys ++ (x ∷ []))) ≡ true) → (a && all_of test (map f (ys ++ (x ∷ [])))) ≡ true
    go true b p rest = rest p
    go false b p rest = p
