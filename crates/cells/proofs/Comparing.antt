-- The walk that compares two sets strip by strip. Assumes nothing.
use mathlib.Core.Path.{◌≡◌, ◌∙◌, subst}
use mathlib.Core.Bool.{Bool, true, false}
use Prim.Native.Nat.{ℕ, ◌+◌, ◌≤◌, ◌<◌}
use native.Mathlib.Omega.{arith}
use native.Mathlib.Decide.{dec_lt}
use lib.ListN.{length, get_or}
use Rattle.meaning.specs.Sizes.{most_strips}
use Rattle.cells.specs.declared.Left.{Left}
use Rattle.cells.specs.Cells.{Chart, left_label, step, Same, Tells}
use Rattle.cells.proofs.Below.{same_last, differ_last, same_strips, differ_strip}

-- Before a strip of the field: a and b agree at all strips passed, and so do x and y, the last that were compared.
pub record Compared (w : Chart) (field : ℕ) (a b : Left) (count strip : ℕ) (x y : Left) : Type 0 where
  pub is_field : field < length w.counts
  pub is_count : count ≡ get_or w.counts field 0
  pub few : count ≤ most_strips
  pub agreed : (i : ℕ) → i < strip → Same w (field + 1) (step w field a i) (step w field b i)
  pub last_agreed : Same w (field + 1) x y

module _ (w : Chart) (field : ℕ) (a b : Left) (count : ℕ) where
  module _ (strip : ℕ) (x y : Left) (z : Compared w field a b count strip x y) where
    pub compared_more : (x' y' : Left) → strip < count → x' ≡ step w field a strip → y' ≡ step w field b strip → Same w (field + 1) x' y'
        → Compared w field a b count (strip + 1) x' y'
    compared_more x' y' h ex ey s =
        let here : Same w (field + 1) (step w field a strip) (step w field b strip) =
        subst (λ (u : Left). Same w (field + 1) u (step w field b strip)) ex (subst (λ (u : Left). Same w (field + 1) x' u) ey s) in
        record {
          is_field = z.is_field;
          is_count = z.is_count;
          few = z.few;
          agreed = λ i l. elim (dec_lt i strip) [
            | yes m ↦ z.agreed i m
            | no m ↦ subst (λ (j : ℕ). Same w (field + 1) (step w field a j) (step w field b j)) (omega arith) here
          ];
          last_agreed = s;
        }

    -- the pair is the last one
    pub compared_skip : (x' y' : Left) → strip < count → x' ≡ step w field a strip → y' ≡ step w field b strip → (x ≡ x') × (y ≡ y')
        → Compared w field a b count (strip + 1) x y
    compared_skip x' y' h ex ey e = compared_more x y h (e.0 ∙ ex) (e.1 ∙ ey) z.last_agreed

    pub compared_end : count ≤ strip → Same w field a b
    compared_end h = same_strips w field a b z.is_field (λ i l. z.agreed i (omega (arith, z.is_count)))

    pub compared_stop : (x' y' : Left) → strip < count → x' ≡ step w field a strip → y' ≡ step w field b strip → ¬ Same w (field + 1) x' y'
        → ¬ Same w field a b
    compared_stop x' y' h ex ey d =
        differ_strip w field a b strip z.is_field (omega (arith, z.is_count))
        (subst (λ (u : Left). ¬ Same w (field + 1) u (step w field b strip)) ex (subst (λ (u : Left). ¬ Same w (field + 1) x' u) ey d))

-- where no field is left, the answer is whether the labels are the same
pub told_last : (w : Chart) (field : ℕ) (a b : Left) (r : Bool) → field ≡ length w.counts
    → Tells r (left_label w.words a ≡ left_label w.words b)
    → Tells r (Same w field a b)
told_last w field a b true e t = same_last w field a b e t
told_last w field a b false e t = differ_last w field a b e t
