-- Functions that are passed along.
use Rattle.std.specs.Prelude.{◌≡◌}
use Rattle.std.specs.Fn.{Shared, FnReturnsAt}
use Rattle.std.specs.Borrow.{Bor}

-- whatever the function gives at a record is what `made` says
abbrev pub Computes : {F A B : Type 0} → Shared F (Bor A × Unit {0}) B → F → (A → B) → Type 0
Computes {A} {B} calls f made = (a : A) (b : B) → FnReturnsAt calls f a b → b ≡ made a
