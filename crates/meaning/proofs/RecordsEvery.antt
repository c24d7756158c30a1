-- What holds of every record of a list. Assumes nothing.
use mathlib.Core.Logic.{◌↔◌}
use mathlib.Core.Bool.{Bool}
use mathlib.Core.List.{List, [], ◌∷◌, ◌++◌, map}
use Prim.Native.Nat.{ℕ, zero, suc, ◌<◌}
use native.Mathlib.Omega.{arith}
use lib.Dec.{T}
use lib.ListN.{length, get_or, take}
use Rattle.meaning.specs.Records.{all_of, Every, every_none, every_more}
use Rattle.meaning.proofs.Tests.{both, left, right}

module _ {A : Type 0} where
  pub every_append : {P : A → Type 0} {xs ys : List A} → Every P xs → Every P ys → Every P (xs ++ ys)
  every_append every_none w = w
  every_append (every_more h v) w = every_more h (every_append v w)

  pub every_map : {P Q : A → Type 0} (g : A → A) → ((x : A) → P x → Q (g x)) → {xs : List A} → Every P xs → Every Q (map g xs)
  every_map g k every_none = every_none
  every_map g k (every_more {x} h v) = every_more (k x h) (every_map g k v)

  pub every_of : {P : A → Type 0} → ((x : A) → P x) → (xs : List A) → Every P xs
  every_of h [] = every_none
  every_of h (x ∷ xs) = every_more (h x) (every_of h xs)

  pub every_take : {P : A → Type 0} (k : ℕ) {xs : List A} → Every P xs → Every P (take k xs)
  every_take zero e = every_none
  every_take (suc k) every_none = every_none
  every_take (suc k) (every_more h e) = every_more h (every_take k e)

  -- what holds of every record holds of it weakened
  pub every_weaker : {P Q : A → Type 0} → ((x : A) → P x → Q x) → {xs : List A} → Every P xs → Every Q xs
  every_weaker weaker every_none = every_none
  every_weaker weaker (every_more {x} h v) = every_more (weaker x h) (every_weaker weaker v)

  -- it holds of those in the middle
  pub every_between : {P : A → Type 0} (before ys after : List A) → Every P (before ++ ys ++ after) → Every P ys
  every_between [] [] after v = every_none
  every_between [] (y ∷ ys) after (every_more h v) = every_more h (every_between [] ys after v)
  every_between (x ∷ before) ys after (every_more h v) = every_between before ys after v

  -- it holds of the one at each index
  pub every_at : {P : A → Type 0} {xs : List A} (i : ℕ) (d : A) → Every P xs → i < length xs → P (get_or xs i d)
  every_at i d every_none h = absurd (omega arith)
  every_at zero d (every_more p v) h = p
  every_at (suc i) d (every_more p v) h = every_at i d v (omega arith)

  -- every record passes a test
  pub all_of_iff : (test : A → Bool) (xs : List A) → T (all_of test xs) ↔ Every (λ x. T (test x)) xs
  unfolding all_of
  all_of_iff test xs = (each xs, all xs)
    where
      each : (ys : List A) → T (all_of test ys) → Every (λ x. T (test x)) ys
      each [] t = every_none
      each (y ∷ ys) t = every_more (left (test y) (all_of test ys) t) (each ys (right (test y) (all_of test ys) t))

      all : (ys : List A) → Every (λ x. T (test x)) ys → T (all_of test ys)
      all ys every_none = tt
      all ys (every_more {x = y} {xs = zs} h e) = both (test y) (all_of test zs) h (all zs e)
