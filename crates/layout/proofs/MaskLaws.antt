-- Masks: their size, when two are equal, and what is common to two, in either, or in one alone. Assumes nothing.
use mathlib.Core.Path.{◌≡◌, refl, sym, ap, ◌∙◌}
use mathlib.Core.Bool.{Bool, true, false, not, ◌&&◌, ◌||◌, cond}
use mathlib.Core.List.{List, [], ◌∷◌, map}
use Prim.Native.Nat.{ℕ, suc, ◌+◌, ◌*◌, ◌/◌, ◌%◌, ◌^◌, ◌≤◌, ◌<◌, min, max}
use native.Mathlib.Nat.{pow-succ'}
use native.Mathlib.Omega.{arith}
use native.Mathlib.Decide.{dec_lt}
use borrow.Author.Tests.{lt-ltb, le-ltb}
use lib.Bits.{bit_and, bit_or, bit_xor, differ, and_step, or_step, xor_step}
use lib.Count.{count_trailing_zeros, under}
use lib.Dec.{ltb}
use lib.ListN.{length}
use Rattle.meaning.specs.Records.{some_of, Every, every_none, every_more}
use Rattle.layout.specs.Masks.{mask}

-- a test's digit
abbrev pub digit : Bool → ℕ
digit b = cond b 1 0

pub digit_small : (b : Bool) → digit b ≤ 1
digit_small true = omega arith
digit_small false = omega arith

-- the lowest digit of a mask, and the others
module _ (b : Bool) (m : ℕ) where
  pub lowest_digit : (digit b + 2 * m) % 2 ≡ digit b
  lowest_digit = omega (arith, digit_small b)

  pub other_digits : (digit b + 2 * m) / 2 ≡ m
  other_digits = omega (arith, digit_small b)

module _ {A : Type 0} where
  -- a mask has as many digits as there are records
  pub mask_small : (test : A → Bool) (xs : List A) → mask test xs < 2 ^ length xs
  unfolding mask
  mask_small test [] = omega arith
  mask_small test (x ∷ xs) = omega (arith, digit_small (test x), mask_small test xs, pow-succ' 2 (length xs))

  -- tests that agree on every record have one mask
  pub mask_same : {test other : A → Bool} {xs : List A} → Every (λ x. test x ≡ other x) xs → mask test xs ≡ mask other xs
  unfolding mask
  mask_same every_none = refl
  mask_same (every_more same later) = λ i. cond (same i) 1 0 + 2 * mask_same later i

  -- the same test of what the records are mapped to
  pub mask_map : {B : Type 0} (test : B → Bool) (f : A → B) (xs : List A) → mask test (map f xs) ≡ mask (λ (x : A). test (f x)) xs
  unfolding mask
  mask_map test f [] = refl
  mask_map test f (x ∷ xs) = ap (λ (m : ℕ). digit (test (f x)) + 2 * m) (mask_map test f xs)

  -- a mask is 0 just if no record passes
  pub mask_some : (test : A → Bool) (xs : List A) → ltb 0 (mask test xs) ≡ some_of test xs
  unfolding mask some_of
  mask_some test [] = le-ltb 0 0 (omega arith)
  mask_some test (x ∷ xs) = either (test x) (mask test xs) (some_of test xs) (mask_some test xs)
    where
      either : (b : Bool) (m : ℕ) (c : Bool) → ltb 0 m ≡ c → ltb 0 (digit b + 2 * m) ≡ b || c
      either true m c e = lt-ltb 0 (1 + 2 * m) (omega arith)
      either false m c e =
          elim (dec_lt 0 m) [
            | yes l ↦ lt-ltb 0 (0 + 2 * m) (omega arith) ∙ sym (lt-ltb 0 m l) ∙ e
            | no l ↦ le-ltb 0 (0 + 2 * m) (omega arith) ∙ sym (le-ltb 0 m (omega arith)) ∙ e
          ]

-- one of two tests passes, and not both
abbrev pub one_of : Bool → Bool → Bool
one_of a b = cond a (not b) b

both_digits : (a b : Bool) → min (digit a) (digit b) ≡ digit (a && b)
both_digits true true = refl
both_digits true false = refl
both_digits false true = refl
both_digits false false = refl

either_digit : (a b : Bool) → max (digit a) (digit b) ≡ digit (a || b)
either_digit true true = refl
either_digit true false = refl
either_digit false true = refl
either_digit false false = refl

one_digit : (a b : Bool) → differ (digit a) (digit b) ≡ digit (one_of a b)
one_digit true true = refl
one_digit true false = refl
one_digit false true = refl
one_digit false false = refl

-- An operation on numbers that goes digit by digit, as `on` does on digits and `of` on tests, goes record by record on masks.
module _
    (op on : ℕ → ℕ → ℕ)
    (of : Bool → Bool → Bool)
    (none : op 0 0 ≡ 0)
    (step : (a b : ℕ) → op a b ≡ op (a / 2) (b / 2) * 2 + on (a % 2) (b % 2))
    (digits : (a b : Bool) → on (digit a) (digit b) ≡ digit (of a b))
  where
    by_digits : {A : Type 0} (f g : A → Bool) (xs : List A) → op (mask f xs) (mask g xs) ≡ mask (λ (x : A). of (f x) (g x)) xs
    unfolding mask
    by_digits f g [] = none
    by_digits {A} f g (x ∷ xs) =
        let a = mask f xs in
        let b = mask g xs in
        let rest : op ((digit (f x) + 2 * a) / 2) ((digit (g x) + 2 * b) / 2) ≡ mask (λ (y : A). of (f y) (g y)) xs =
        (λ i. op (other_digits (f x) a i) (other_digits (g x) b i)) ∙ by_digits f g xs in
        let low : on ((digit (f x) + 2 * a) % 2) ((digit (g x) + 2 * b) % 2) ≡ digit (of (f x) (g x)) =
        (λ i. on (lowest_digit (f x) a i) (lowest_digit (g x) b i)) ∙ digits (f x) (g x) in
        omega (arith, step (digit (f x) + 2 * a) (digit (g x) + 2 * b), rest, low)

module _ {A : Type 0} (f g : A → Bool) (xs : List A) where
  pub mask_and : bit_and (mask f xs) (mask g xs) ≡ mask (λ (x : A). f x && g x) xs
  mask_and = by_digits bit_and min ◌&&◌ refl and_step both_digits f g xs

  pub mask_or : bit_or (mask f xs) (mask g xs) ≡ mask (λ (x : A). f x || g x) xs
  mask_or = by_digits bit_or max ◌||◌ refl or_step either_digit f g xs

  pub mask_xor : bit_xor (mask f xs) (mask g xs) ≡ mask (λ (x : A). one_of (f x) (g x)) xs
  mask_xor = by_digits bit_xor differ one_of refl xor_step one_digit f g xs

-- the trailing zeros of a mask: none if the first record passes
pub trailing_digit : (k : ℕ) (b : Bool) (m : ℕ) → count_trailing_zeros (suc k) (digit b + 2 * m) ≡ cond b 0 (suc (count_trailing_zeros k m))
unfolding count_trailing_zeros
trailing_digit k b m = (λ i. under (lowest_digit b m i) (count_trailing_zeros k (other_digits b m i))) ∙ either b
  where
    either : (c : Bool) → under (digit c) (count_trailing_zeros k m) ≡ cond c 0 (suc (count_trailing_zeros k m))
    either true = refl
    either false = refl
