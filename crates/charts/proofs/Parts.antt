-- Parts of one size, one behind the other: where the numbers of each stand. Assumes nothing.
use mathlib.Core.Path.{◌≡◌, ap, ◌∙◌}
use mathlib.Core.List.{List, ◌++◌}
use Prim.Native.Nat.{ℕ, ◌+◌, ◌*◌, ◌<◌}
use native.Mathlib.Nat.{mul-suc, mul-zero}
use native.Mathlib.Numerals.{add-one}
use native.Mathlib.Omega.{arith}
use lib.ListN.{length, get_or, length-append, get_or-append}
use lib.Seq.{get_or-append-add}

-- from part k on, `all` has the numbers of `some`
abbrev pub PartsFrom : ℕ → List ℕ → ℕ → List ℕ → Type 0
PartsFrom size all k some = (j : ℕ) → j < length some → get_or all (size * k + j) 0 ≡ get_or some j 0

module _ (size : ℕ) (all : List ℕ) where
  -- from the first on, it has its own
  pub parts_all : PartsFrom size all 0 all
  parts_all j h = let here : size * 0 + j ≡ j = omega (arith, mul-zero size) in ap (λ (i : ℕ). get_or all i 0) here

  module _ (k : ℕ) (part more : List ℕ) (there : PartsFrom size all k (part ++ more)) where
    -- the first part, and the later ones
    pub parts_here : PartsFrom size all k part
    parts_here j h = there j (omega (arith, length-append part more)) ∙ get_or-append part more 0 j h

    pub parts_later : length part ≡ size → PartsFrom size all (k + 1) more
    parts_later long j h =
        let next : size * (k + 1) ≡ size * k + size = ap (λ (i : ℕ). size * i) (add-one k) ∙ mul-suc size k in
        let at : size * (k + 1) + j ≡ size * k + (length part + j) = omega arith in
        ap (λ (i : ℕ). get_or all i 0) at ∙ there (length part + j) (omega (arith, length-append part more)) ∙ get_or-append-add part more j 0
