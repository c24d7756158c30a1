-- A label and its number. Assumes nothing.
use mathlib.Core.Path.{◌≡◌, ap, ◌∙◌}
use Prim.Native.Nat.{ℕ, ◌/◌, ◌%◌, ◌≤◌}
use native.Mathlib.Omega.{arith}
use Rattle.meaning.specs.Labels.{Label, good, conflict, wrong, unasked, unmet_accept, unmet_deny, kind, rule}
use Rattle.meaning.proofs.LabelKinds.{kind_zero, label_is_kind_and_rule}
use Rattle.cells.specs.Cells.{label_number}

-- there are six kinds
few_kinds : (l : Label) → kind l ≤ 5
unfolding kind
few_kinds good = omega arith
few_kinds conflict = omega arith
few_kinds (wrong n) = omega arith
few_kinds (unasked n) = omega arith
few_kinds unmet_accept = omega arith
few_kinds unmet_deny = omega arith

-- labels with the same number are the same
pub same_number : (l m : Label) → label_number l ≡ label_number m → l ≡ m
same_number l m e = label_is_kind_and_rule l m (omega (arith, e, few_kinds l, few_kinds m)) (omega (arith, e, few_kinds l, few_kinds m))

-- the label with the number n
module _ (l : Label) (n : ℕ) (is_number : n ≡ label_number l) where
  pub number_kind : n % 8 ≡ kind l
  number_kind = omega (arith, is_number, few_kinds l)

  pub number_rule : n / 8 ≡ rule l
  number_rule = omega (arith, is_number, few_kinds l)

  pub zero_is_good : n ≡ 0 → l ≡ good
  zero_is_good e = kind_zero l (omega (arith, is_number, e))

  pub good_is_zero : ¬ (n ≡ 0) → ¬ (l ≡ good)
  unfolding kind rule
  good_is_zero other e = other (is_number ∙ ap label_number e)
