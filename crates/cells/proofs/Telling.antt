-- What an answer tells. Assumes nothing.
use mathlib.Core.Path.{◌≡◌, subst}
use mathlib.Core.Bool.{Bool, true, false}
use Rattle.cells.specs.Cells.{Tells}

module _ {r : Bool} {P : Type 0} where
  pub told_true : r ≡ true → Tells r P → P
  told_true e t = subst (λ (b : Bool). Tells b P) e t

  pub told_false : r ≡ false → Tells r P → ¬ P
  told_false e t = subst (λ (b : Bool). Tells b P) e t
