-- Looking for a directive without exceptions: the first is looked at, and cleared. Assumes nothing.
use mathlib.Core.Path.{◌≡◌, refl, sym, ◌∙◌, ap, subst}
use mathlib.Core.Bool.{Bool, true, false, ◌||◌}
use mathlib.Core.List.{List}
use Prim.Native.Nat.{ℕ, zero, suc, ◌+◌, ◌-◌, ◌*◌, ◌/◌, ◌%◌, ◌^◌, ◌<◌}
use native.Mathlib.Nat.{pow-suc}
use native.Mathlib.Omega.{arith}
use native.Mathlib.Decide.{ℕ_discrete}
use borrow.Author.Tests.{eq-eqb, ne_eqb, lt-ltb, le-ltb}
use lib.Bits.{bit_and, and_step, and_self, and_le_r}
use lib.Count.{count_trailing_zeros, under}
use lib.Dec.{eqb}
use lib.ListN.{get_or}
use Rattle.meaning.specs.Sizes.{mask_digits, first_owner}
use Rattle.cells.specs.Cells.{free_from, asked_by}

-- where no directive is left, none is without exceptions
pub free_none : (m t : ℕ) (words : List ℕ) (e : ℕ) → free_from m t words e 0 ≡ false
unfolding free_from
free_none zero t words e = refl
free_none (suc m) t words e = free_none m (t + 1) words e

-- n without its lowest digit that is set
abbrev cleared : ℕ → ℕ
cleared n = bit_and n (n - 1)

-- an odd number loses its 1, an even one a digit of its half
cleared_odd : (n : ℕ) → n % 2 ≡ 1 → cleared n ≡ n / 2 * 2
cleared_odd n o =
    let half : (n - 1) / 2 ≡ n / 2 = omega arith in
    let low : (n - 1) % 2 ≡ 0 = omega arith in
    omega (arith, and_step n (n - 1), ap (bit_and (n / 2)) half, and_self (n / 2))

cleared_even : (n : ℕ) → ¬ (n ≡ 0) → n % 2 ≡ 0 → cleared n ≡ cleared (n / 2) * 2
cleared_even n ne o =
    let half : (n - 1) / 2 ≡ n / 2 - 1 = omega arith in
    omega (arith, and_step n (n - 1), ap (bit_and (n / 2)) half)

-- directive t has no exception in e
abbrev free : List ℕ → ℕ → ℕ → Bool
free words e t = eqb (bit_and e (get_or words (first_owner + t) 0)) 0

-- the first directive is looked at: it is within m digits, and the others are left
record Looked (m t first : ℕ) (words : List ℕ) (e rest : ℕ) : Type 0 where
  within : first < m
  others : free_from m t words e rest ≡ (free words e (t + first) || free_from m t words e (cleared rest))

looked_here : (m t : ℕ) (words : List ℕ) (e rest : ℕ) → rest % 2 ≡ 1 → Looked (suc m) t 0 words e rest
unfolding free_from
looked_here m t words e rest o =
    let place : t + 0 ≡ t = omega arith in
    let c = cleared_odd rest o in
    let low : cleared rest % 2 ≡ 0 = omega arith in
    let half : cleared rest / 2 ≡ rest / 2 = omega arith in
    record { within = omega arith; others = rw o (rw low (rw half (rw place refl))) }

looked_later : (m t first : ℕ) (words : List ℕ) (e rest : ℕ) → ¬ (rest ≡ 0) → rest % 2 ≡ 0 → Looked m (t + 1) first words e (rest / 2) → Looked (suc m) t (suc first) words e rest
unfolding free_from
looked_later m t first words e rest ne o z =
    let place : t + suc first ≡ t + 1 + first = omega arith in
    let c = cleared_even rest ne o in
    let low : cleared rest % 2 ≡ 0 = omega arith in
    let half : cleared rest / 2 ≡ cleared (rest / 2) = omega arith in
    record { within = omega (arith, z.within); others = rw o (rw low (rw half (rw place z.others))) }

-- trailing zeros tell it
looked : (m t : ℕ) (words : List ℕ) (e rest : ℕ) → rest < 2 ^ m → ¬ (rest ≡ 0) → Looked m t (count_trailing_zeros m rest) words e rest
unfolding count_trailing_zeros
looked zero t words e rest l ne = absurd (ne (omega arith))
looked (suc m) t words e rest l ne =
    elim (ℕ_discrete (rest % 2) 1) [
      | yes o ↦ subst (λ (d : ℕ). Looked (suc m) t (under d (count_trailing_zeros m (rest / 2))) words e rest) (sym o) (looked_here m t words e rest o)
      | no o ↦
          let even : rest % 2 ≡ 0 = omega arith in
          subst (λ (d : ℕ). Looked (suc m) t (under d (count_trailing_zeros m (rest / 2))) words e rest) (sym even)
          (looked_later m t (count_trailing_zeros m (rest / 2)) words e rest ne even
          (looked m (t + 1) words e (rest / 2) (omega (arith, pow-suc 2 m)) (λ z. ne (omega arith))))
    ]

-- before the rest of the directives
pub record Freeing (words : List ℕ) (e turning own rest : ℕ) : Type 0 where
  pub low : rest < 2 ^ mask_digits
  pub so_far : free_from mask_digits 0 words e rest ≡ asked_by words e turning own

module _ (words : List ℕ) (e turning own : ℕ) where
  -- an exception asks
  pub asked_by_exception : ¬ (bit_and e turning ≡ 0) → true ≡ asked_by words e turning own
  unfolding asked_by
  asked_by_exception ne = sym (ap (λ (b : Bool). b || free_from mask_digits 0 words e own) (lt-ltb 0 (bit_and e turning) (omega arith)))

  pub freeing_start : own < 2 ^ mask_digits → bit_and e turning ≡ 0 → Freeing words e turning own own
  unfolding asked_by
  freeing_start h z = record { low = h; so_far = sym (ap (λ (b : Bool). b || free_from mask_digits 0 words e own) (le-ltb 0 (bit_and e turning) (omega arith))) }

  module _ (rest : ℕ) (z : Freeing words e turning own rest) where
    module _ (first : ℕ) (is_first : first ≡ count_trailing_zeros mask_digits rest) (ne : ¬ (rest ≡ 0)) where
      pub freeing_within : first < mask_digits
      freeing_within = omega (arith, is_first, (looked mask_digits 0 words e rest z.low ne).within)

      -- fewer are left
      pub freeing_less : bit_and rest (rest - 1) < rest
      freeing_less = omega (arith, and_le_r rest (rest - 1))

      others : asked_by words e turning own ≡ (free words e first || free_from mask_digits 0 words e (cleared rest))
      others =
          let at : 0 + count_trailing_zeros mask_digits rest ≡ first = omega arith in
          sym z.so_far ∙ (looked mask_digits 0 words e rest z.low ne).others ∙ ap (λ (j : ℕ). free words e j || free_from mask_digits 0 words e (cleared rest)) at

      pub freeing_found : bit_and e (get_or words (first_owner + first) 0) ≡ 0 → true ≡ asked_by words e turning own
      freeing_found f = sym (others ∙ ap (λ (b : Bool). b || free_from mask_digits 0 words e (cleared rest)) (eq-eqb _ 0 f))

      pub freeing_more : ¬ (bit_and e (get_or words (first_owner + first) 0) ≡ 0) → Freeing words e turning own (bit_and rest (rest - 1))
      freeing_more f =
          record {
            low = omega (arith, freeing_less, z.low);
            so_far = sym (others ∙ ap (λ (b : Bool). b || free_from mask_digits 0 words e (cleared rest)) (ne_eqb _ 0 f));
          }

    pub freeing_end : rest ≡ 0 → false ≡ asked_by words e turning own
    freeing_end n = sym (free_none mask_digits 0 words e) ∙ ap (free_from mask_digits 0 words e) (sym n) ∙ z.so_far

pub ruleset freeing = (asked_by_exception, freeing_start, freeing_within, freeing_less, freeing_found, freeing_more, freeing_end)
