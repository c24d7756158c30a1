-- A lent buffer after the listing is as long as before, and every number past the rows written is as it was. Assumes nothing.
use mathlib.Core.Path.{◌≡◌, refl, sym, ◌∙◌, ap}
use mathlib.Core.List.{List, [], ◌∷◌, ◌++◌}
use Prim.Native.Nat.{ℕ, ◌+◌, ◌*◌, ◌-◌, ◌≤◌}
use native.Mathlib.Omega.{arith}
use native.Mathlib.Nat.{suc-mul, zero-mul, div-mul-le_self, mul-le-mul_right}
use lib.ListN.{length, take, drop, get_or, length-append, length-drop, length-take}
use lib.Seq.{take-append_seam, get_or-append-add, get_or-drop}
use Rattle.meaning.specs.Blocks.{Block}
use Rattle.meaning.specs.Buffers.{bounds, spans_of, row, rows, row_length, room, written}
use Rattle.meaning.specs.Labels.{Label}
use Rattle.meaning.specs.Listings.{Listed}
use Rattle.meaning.specs.Records.{Every, every_none, every_more}
use Rattle.meaning.proofs.FormLaws.{form_shaped}
use Rattle.meaning.proofs.ListingForm.{InForm}
use Rattle.meaning.proofs.RecordsEvery.{every_take}

-- two numbers a span, and so many a row
pub bounds_length : (b : Block) → length (bounds b) ≡ 2 * length b
unfolding bounds
bounds_length [] = refl
bounds_length (s ∷ b) = omega (arith, bounds_length b)

-- a block can be had back from its bounds
pub spans_of_bounds : (b : Block) → spans_of (bounds b) ≡ b
unfolding bounds spans_of
spans_of_bounds [] = refl
spans_of_bounds (s ∷ b) = ap (λ (c : Block). s ∷ c) (spans_of_bounds b)

pub row_length_lem : (ns : List ℕ) (b : Listed Label) → InForm ns b → length (row b) ≡ row_length ns
unfolding row
row_length_lem ns b t = omega (arith, bounds_length b.block, form_shaped ns b.block t)

pub rows_length : (ns : List ℕ) {bs : List (Listed Label)} → Every (InForm ns) bs → length (rows bs) ≡ length bs * row_length ns
unfolding rows
rows_length ns every_none = sym (zero-mul (row_length ns))
rows_length ns (every_more {x = b} {xs = bs} e v) = length-append (row b) (rows bs) ∙ omega (arith, row_length_lem ns b e, rows_length ns v, suc-mul (length bs) (row_length ns))

module _ (ns : List ℕ) (blocks : List (Listed Label)) (buffer : List ℕ) where
  -- the blocks that fit stand in front
  pub written_front : take (length (rows (take (room ns buffer) blocks))) (written ns blocks buffer) ≡ rows (take (room ns buffer) blocks)
  unfolding written
  written_front =
      let front = rows (take (room ns buffer) blocks) in
      take-append_seam front (drop (length front) buffer)

  -- every other number keeps its old value
  pub written_past : (k d : ℕ) → length (rows (take (room ns buffer) blocks)) ≤ k → get_or (written ns blocks buffer) k d ≡ get_or buffer k d
  unfolding written
  written_past k d h =
      let front = rows (take (room ns buffer) blocks) in
      let e : k ≡ length front + (k - length front) = omega arith in
      ap (λ (j : ℕ). get_or (front ++ drop (length front) buffer) j d) e
      ∙ get_or-append-add front (drop (length front) buffer) (k - length front) d
      ∙ get_or-drop (length front) buffer (k - length front) d
      ∙ ap (λ (j : ℕ). get_or buffer j d) (sym e)

  -- the rows written are no longer than the buffer
  pub rows_fit : Every (InForm ns) blocks → length (rows (take (room ns buffer) blocks)) ≤ length buffer
  rows_fit e =
      let shown = take (room ns buffer) blocks in
      let few : length shown ≤ room ns buffer = omega (arith, length-take (room ns buffer) blocks) in
      omega (arith, rows_length ns (every_take (room ns buffer) e), mul-le-mul_right (row_length ns) few, div-mul-le_self (length buffer) (row_length ns))

  pub written_length : Every (InForm ns) blocks → length (written ns blocks buffer) ≡ length buffer
  unfolding written
  written_length e =
      let front = rows (take (room ns buffer) blocks) in
      length-append front (drop (length front) buffer) ∙ omega (arith, length-drop (length front) buffer, rows_fit e)
