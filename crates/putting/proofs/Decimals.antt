-- A number in its fewest digits is its decimal number. Assumes nothing.
use mathlib.Core.Path.{◌≡◌, refl, sym, ap, ◌∙◌, subst}
use mathlib.Core.List.{[], ◌∷◌, ◌++◌}
use Prim.Native.Nat.{ℕ, zero, suc, ◌+◌, ◌-◌, ◌/◌, ◌%◌, ◌^◌, ◌≤◌, ◌<◌}
use native.Mathlib.Decide.{dec_lt}
use native.Mathlib.Nat.{add-suc, add-zero, pow-suc}
use native.Mathlib.Omega.{arith}
use borrow.Author.Tests.{lt-ltb, le-ltb}
use Rattle.io.specs.Digits.{last_digits, hex_digit_ascii, IsDigitCount}
use Rattle.putting.specs.Spelling.{digit, decimal_below, decimal}

-- a digit below 10 has its byte
digit_byte : (d : ℕ) → d < 10 → hex_digit_ascii d ≡ digit d
digit_byte d small = simp (lt-ltb d 10 small)

-- 10 ^ k is positive, and at least 10 if k is
power_positive : (k : ℕ) → 1 ≤ 10 ^ k
power_positive zero = omega arith
power_positive (suc k) = omega (arith, pow-suc 10 k, power_positive k)

-- a number of more than one digit has its first power
first_power : (n k : ℕ) → IsDigitCount 10 1 n (suc k) → 1 ≤ k → 10 ^ k ≤ n
first_power n k few more =
    let less : suc k - 1 ≡ k = omega arith in
    subst (λ (m : ℕ). 10 ^ m ≤ n) less (few.2 (omega arith))

-- a number below 10 has one digit
one_digit : (n k : ℕ) → n < 10 → IsDigitCount 10 1 n (suc k) → k ≡ 0
one_digit n zero small few = refl
one_digit n (suc k) small few =
    absurd (omega (arith, first_power n (suc k) few (omega arith), pow-suc 10 k, power_positive k))

-- without its last digit a number has one digit fewer
fewer_digits : (n k : ℕ) → 10 ≤ n → IsDigitCount 10 1 n (suc k) → IsDigitCount 10 1 (n / 10) k
fewer_digits n zero large few = absurd (omega (arith, few.1))
fewer_digits n (suc k) large few =
    let less : suc k - 1 ≡ k = omega arith in (
      omega arith,
      omega (arith, few.1, pow-suc 10 (suc k)),
      λ more. subst (λ (m : ℕ). 10 ^ m ≤ n / 10) (sym less) (omega (arith, first_power n (suc k) few (omega arith), pow-suc 10 k)),
    )

fewest_below : (k r n : ℕ) → r ≤ k → IsDigitCount 10 1 n r → last_digits 10 r n ≡ decimal_below k n
fewest_below k zero n within few = absurd (omega (arith, few.0))
fewest_below zero (suc r) n within few = absurd (omega arith)
fewest_below (suc k) (suc r) n within few =
    elim (dec_lt n 10) [
      | yes small ↦
          let alone : r ≡ 0 = one_digit n r small few in
          let same : n % 10 ≡ n = omega arith in
          (λ i. last_digits 10 (alone i) (n / 10) ++ (hex_digit_ascii (same i) ∷ []))
          ∙ ap (λ (b : ℕ). b ∷ []) (digit_byte n small)
          ∙ simp (lt-ltb n 10 small)
      | no large ↦
          (λ i. fewest_below k r (n / 10) (omega arith) (fewer_digits n r (omega arith) few) i ++ (digit_byte (n % 10) (omega arith) i ∷ []))
          ∙ simp (le-ltb n 10 (omega arith))
    ]

-- powers rise
power_rises : (k d : ℕ) → 10 ^ k ≤ 10 ^ (k + d)
power_rises k zero = omega (arith, ap (λ (m : ℕ). 10 ^ m) (add-zero k))
power_rises k (suc d) = omega (arith, ap (λ (m : ℕ). 10 ^ m) (add-suc k d), pow-suc 10 (k + d), power_rises k d)

-- a 64-bit number has at most 20 digits
at_most_20 : (n r : ℕ) → n < 2 ^ 64 → IsDigitCount 10 1 n r → r ≤ 20
at_most_20 n zero small few = omega arith
at_most_20 n (suc r) small few =
    elim (dec_lt r 20) [
      | yes l ↦ omega arith
      | no l ↦
          let over : r ≡ 20 + (r - 20) = omega arith in
          absurd (omega (arith, small, first_power n r few (omega arith), power_rises 20 (r - 20), ap (λ (m : ℕ). 10 ^ m) over))
    ]

-- the fewest digits of a 64-bit number
pub fewest_decimal : (r n : ℕ) → n < 2 ^ 64 → IsDigitCount 10 1 n r → last_digits 10 r n ≡ decimal n
unfolding decimal
fewest_decimal r n small few = fewest_below 20 r n (at_most_20 n r small few) few
