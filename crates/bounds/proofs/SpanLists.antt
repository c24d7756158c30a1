-- The spans of so many blocks from block j on: their number, the one in front, and those of two runs of blocks. Assumes nothing.
use mathlib.Core.Path.{◌≡◌, refl, ap, ◌∙◌}
use mathlib.Core.List.{List, [], ◌∷◌, ◌++◌}
use Prim.Native.Nat.{ℕ, zero, suc, ◌+◌, ◌-◌, ◌≤◌, ◌<◌}
use native.Mathlib.Omega.{arith}
use lib.ListN.{length}
use Rattle.meaning.specs.Blocks.{Span}
use Rattle.bounds.specs.Spans.{span_in, spans_in}

module _ (numbers : List ℕ) (field : ℕ) where
  -- a span for each block
  pub length_spans : (j count : ℕ) → length (spans_in numbers field j count) ≡ count
  unfolding spans_in
  length_spans j zero = refl
  length_spans j (suc count) = ap suc (length_spans (j + 1) count)

  -- from the end e on there is none
  pub spans_none : (e : ℕ) → spans_in numbers field e (e - e) ≡ []
  unfolding spans_in
  spans_none e = let none : e - e ≡ 0 = omega arith in rw none refl

  -- up to the end e, one block sooner: its span in front
  pub spans_sooner : (j e : ℕ) → 0 < j → j ≤ e
      → spans_in numbers field (j - 1) (e - (j - 1)) ≡ span_in numbers field (j - 1) ∷ spans_in numbers field j (e - j)
  unfolding spans_in
  spans_sooner j e above within =
      let one_more : e - (j - 1) ≡ suc (e - j) = omega arith in
      let next : j - 1 + 1 ≡ j = omega arith in
      rw one_more (ap (λ (k : ℕ). span_in numbers field (j - 1) ∷ spans_in numbers field k (e - j)) next)

  -- two runs of blocks, one after the other
  spans_append : (j a b : ℕ) → spans_in numbers field j (a + b) ≡ spans_in numbers field j a ++ spans_in numbers field (j + a) b
  unfolding spans_in
  spans_append j zero b =
      let none : 0 + b ≡ b = omega arith in
      let here : j ≡ j + 0 = omega arith in
      rw none (ap (λ (k : ℕ). spans_in numbers field k b) here)
  spans_append j (suc a) b =
      let more : suc a + b ≡ suc (a + b) = omega arith in
      let after : j + 1 + a ≡ j + suc a = omega arith in
      rw more
      (ap (λ (ss : List Span). span_in numbers field j ∷ ss)
      (spans_append (j + 1) a b ∙ ap (λ (k : ℕ). spans_in numbers field (j + 1) a ++ spans_in numbers field k b) after))

  -- the spans of the rules, of the directives and of the exceptions, as a chart has them
  pub spans_parts : (a b c : ℕ)
      → spans_in numbers field 0 (a + b + c) ≡ spans_in numbers field 0 a ++ spans_in numbers field a b ++ spans_in numbers field (a + b) c
  spans_parts a b c =
      let at_b : 0 + a ≡ a = omega arith in
      let at_c : 0 + (a + b) ≡ a + b = omega arith in
      spans_append 0 (a + b) c ∙ (λ i. spans_append 0 a b i ++ spans_in numbers field (at_c i) c)
      ∙ ap (λ (k : ℕ). spans_in numbers field 0 a ++ spans_in numbers field k b ++ spans_in numbers field (a + b) c) at_b
