-- A mask made record by record from the last to the first, each digit put in front of those so far. Assumes nothing.
use mathlib.Core.Path.{◌≡◌, refl, ap, ◌∙◌}
use mathlib.Core.Bool.{Bool, true, false}
use mathlib.Core.List.{List, [], ◌∷◌, reverse}
use Prim.Native.Nat.{ℕ, ◌+◌, ◌*◌, ◌-◌, ◌/◌, ◌%◌, ◌^◌, ◌≤◌, ◌<◌, max}
use mir.Val.{bool_byte}
use native.Mathlib.Omega.{arith}
use lib.Bits.{bit_or, or_step, or_zero_r}
use lib.ListN.{length}
use lib.Pow.{pow_mono}
use Rattle.std.specs.List.{fold}
use Rattle.std.proofs.lemmas.Grind.{reverse_onto}
use Rattle.std.proofs.lemmas.List.Sums.{fold-append}
use Rattle.meaning.specs.Sizes.{mask_digits}
use Rattle.layout.specs.Masks.{mask}
use Rattle.layout.proofs.MaskLaws.{digit, digit_small, mask_small}

-- a test's digit is the number that the test turns into
pub byte_is_digit : (b : Bool) → bool_byte b ≡ digit b
byte_is_digit true = refl
byte_is_digit false = refl

module _ {A : Type 0} (test : A → Bool) where
  -- the digits so far, moved up by one in a word, and the record's digit below them
  abbrev pub digit_more : ℕ → A → ℕ
  digit_more m x = bit_or (m * 2 % 2 ^ mask_digits) (digit (test x))

  -- no digit is lost where there are fewer than a word has
  pub digit_in_front : (m : ℕ) (x : A) → 2 * m < 2 ^ mask_digits → digit_more m x ≡ digit (test x) + 2 * m
  digit_in_front m x room = by (digit (test x)) (m * 2 % 2 ^ mask_digits) (digit_small (test x)) (omega arith)
    where
      by : (d n : ℕ) → d ≤ 1 → n ≡ m * 2 → bit_or n d ≡ d + 2 * m
      by d n small e =
          let high : n / 2 ≡ m = omega arith in
          let none : d / 2 ≡ 0 = omega arith in
          let low : max (n % 2) (d % 2) ≡ d = omega arith in
          or_step n d ∙ (λ i. bit_or (high i) (none i) * 2 + low i) ∙ ap (λ (k : ℕ). k * 2 + d) (or_zero_r m) ∙ omega arith

  -- from the last record to the first
  pub mask_folded : (xs : List A) → length xs ≤ mask_digits → fold digit_more 0 (reverse xs) ≡ mask test xs
  unfolding mask
  mask_folded [] h = refl
  mask_folded (x ∷ xs) h =
      let later = mask_folded xs (omega arith) in
      ap (fold digit_more 0) (reverse_onto xs x []) ∙ fold-append digit_more 0 (reverse xs) (x ∷ [])
      ∙ ap (λ (m : ℕ). digit_more m x) later
      ∙ digit_in_front (mask test xs) x (omega (arith, mask_small test xs, pow_mono {i = length xs} {j = mask_digits - 1} (omega arith)))
