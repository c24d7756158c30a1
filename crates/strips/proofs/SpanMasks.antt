-- The walk over spans from the last to the first that makes the mask of those that hold a number. Assumes nothing.
use mathlib.Core.Path.{◌≡◌, refl, sym, ap, ◌∙◌}
use mathlib.Core.Bool.{Bool}
use mathlib.Core.List.{List}
use Prim.Native.Nat.{ℕ, ◌+◌, ◌*◌, ◌-◌, ◌%◌, ◌^◌, ◌≤◌, ◌<◌}
use native.Mathlib.Omega.{arith}
use borrow.Author.Tests.{le-leb, lt-leb}
use lib.Bits.{bit_or}
use lib.Dec.{leb}
use lib.Pow.{pow_mono}
use Rattle.layout.specs.Masks.{mask}
use Rattle.layout.proofs.Folding.{digit_in_front}
use Rattle.layout.proofs.MaskLaws.{digit, mask_small}
use Rattle.meaning.specs.Blocks.{Span, within}
use Rattle.meaning.specs.Sizes.{mask_digits}
use Rattle.strips.specs.Charts.{holding}
use Rattle.bounds.specs.Spans.{span_in, spans_in}
use Rattle.bounds.proofs.SpanLists.{length_spans, spans_none, spans_sooner}

-- the span begins up to x: it holds x where it reaches x
pub within_from : (s : Span) (x : ℕ) → s.low ≤ x → leb x s.high ≡ within s x
unfolding within
within_from s x from = simp (le-leb s.low x from)

-- x is below the span
pub within_below : (s : Span) (x : ℕ) → x < s.low → leb s.low x ≡ within s x
unfolding within
within_below s x below = simp (lt-leb s.low x below)

module _ (numbers : List ℕ) (field x end : ℕ) where
  -- `m` is the mask of the spans from block j up to `end` that hold x
  abbrev pub HoldingFrom : ℕ → ℕ → Type 0
  HoldingFrom j m = m ≡ holding (spans_in numbers field j (end - j)) x

  -- no span yet
  pub holding_start : HoldingFrom end 0
  unfolding mask
  holding_start = rw (spans_none numbers field end) refl

  -- one span more: its digit in front
  pub holding_next : {j m low : ℕ} {holds : Bool} → 0 < j → j ≤ end → end - j < mask_digits → HoldingFrom j m
      → holds ≡ within (span_in numbers field (j - 1)) x
      → low ≡ digit holds
      → HoldingFrom (j - 1) (bit_or (m * 2 % 2 ^ mask_digits) low)
  unfolding mask
  holding_next {j} {m} above inside few is_mask is_within is_digit =
      let test : Span → Bool = λ s. within s x in
      let s = span_in numbers field (j - 1) in
      let ss = spans_in numbers field j (end - j) in
      let small = mask_small test ss in
      let room = pow_mono {i = end - j} {j = mask_digits - 1} (omega arith) in
      ap (bit_or (m * 2 % 2 ^ mask_digits)) (is_digit ∙ ap digit is_within)
      ∙ digit_in_front test m s (omega (arith, is_mask, rw (length_spans numbers field j (end - j)) at small, room))
      ∙ ap (λ (n : ℕ). digit (test s) + 2 * n) is_mask
      ∙ sym (ap (λ (us : List Span). holding us x) (spans_sooner numbers field j end above inside))
