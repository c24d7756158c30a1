-- The spans in an array that has the numbers of blocks are the spans of the blocks. Assumes nothing.
use mathlib.Core.Path.{◌≡◌, refl, sym, ap, ◌∙◌}
use mathlib.Core.List.{List, [], ◌∷◌, ◌++◌, map}
use Prim.Native.Nat.{ℕ, zero, suc, ◌+◌, ◌*◌, ◌<◌}
use native.Mathlib.Omega.{arith}
use lib.ListN.{length, get_or, length-append, length-map, get_or-append, get_or-map}
use lib.Seq.{get_or-take, get_or-append-add}
use Rattle.meaning.specs.Blocks.{Span, Block}
use Rattle.meaning.specs.Buffers.{bounds}
use Rattle.meaning.specs.Records.{Every, every_none, every_more}
use Rattle.meaning.specs.Sizes.{field_count, block_bounds}
use Rattle.meaning.proofs.BufferWritten.{bounds_length}
use Rattle.meaning.proofs.RecordsEvery.{every_at}
use Rattle.bounds.specs.Spans.{numbers_of, InFront, span_in, spans_in}

-- a span that holds nothing
abbrev pub no_span : Span
no_span = record { low = 1; high = 0 }

-- a block's span in a field
abbrev pub span_of : ℕ → Block → Span
span_of field b = get_or b field no_span

-- so many spans from block j on are those of a list, if each is
spans_are : (numbers : List ℕ) (field j : ℕ) (ss : List Span)
    → ((i : ℕ) → i < length ss → span_in numbers field (j + i) ≡ get_or ss i no_span)
    → spans_in numbers field j (length ss) ≡ ss
unfolding spans_in
spans_are numbers field j [] each = refl
spans_are numbers field j (s ∷ ss) each =
    let here : j ≡ j + 0 = omega arith in
    let next : (i : ℕ) → j + 1 + i ≡ j + suc i = λ i. omega arith in
    let first = ap (span_in numbers field) here ∙ each 0 (omega arith) in
    let later = spans_are numbers field (j + 1) ss (λ i h. ap (span_in numbers field) (next i) ∙ each (suc i) (omega arith)) in
    λ t. first t ∷ later t

-- the low bound of a field
low_bound : (b : Block) (field : ℕ) → field < length b → get_or (bounds b) (2 * field) 0 ≡ (span_of field b).low
unfolding bounds
low_bound [] field h = absurd (omega arith)
low_bound (s ∷ b) zero h = refl
low_bound (s ∷ b) (suc field) h =
    let more : 2 * suc field ≡ suc (suc (2 * field)) = omega arith in
    rw more (low_bound b field (omega arith))

-- the high bound of a field
high_bound : (b : Block) (field : ℕ) → field < length b → get_or (bounds b) (2 * field + 1) 0 ≡ (span_of field b).high
unfolding bounds
high_bound [] field h = absurd (omega arith)
high_bound (s ∷ b) zero h = refl
high_bound (s ∷ b) (suc field) h =
    let more : 2 * suc field + 1 ≡ suc (suc (2 * field + 1)) = omega arith in
    rw more (high_bound b field (omega arith))

-- two numbers a field, block after block
pub length_numbers : {bs : List Block} → Every (λ b. length b ≡ field_count) bs → length (numbers_of bs) ≡ block_bounds * length bs
unfolding numbers_of
length_numbers every_none = refl
length_numbers (every_more {x = b} {xs = bs} shaped all_shaped) =
    omega (arith, shaped, length-append (bounds b) (numbers_of bs), bounds_length b, length_numbers all_shaped)

-- where the numbers of block j stand
number_at : {bs : List Block} → Every (λ b. length b ≡ field_count) bs → (j k : ℕ) → j < length bs → k < block_bounds
    → get_or (numbers_of bs) (block_bounds * j + k) 0 ≡ get_or (bounds (get_or bs j [])) k 0
unfolding numbers_of
number_at every_none j k h small = absurd (omega arith)
number_at (every_more {x = b} {xs = bs} shaped all_shaped) zero k h small =
    let first : block_bounds * 0 + k ≡ k = omega arith in
    rw first (get_or-append (bounds b) (numbers_of bs) 0 k (omega (arith, shaped, bounds_length b)))
number_at (every_more {x = b} {xs = bs} shaped all_shaped) (suc j) k h small =
    let later : block_bounds * suc j + k ≡ length (bounds b) + (block_bounds * j + k) = omega (arith, shaped, bounds_length b) in
    rw later (get_or-append-add (bounds b) (numbers_of bs) (block_bounds * j + k) 0 ∙ number_at all_shaped j k (omega arith) small)

-- a block in the middle
block_at : (before blocks after : List Block) (i : ℕ) → i < length blocks
    → get_or (before ++ blocks ++ after) (length before + i) [] ≡ get_or blocks i []
block_at before blocks after i h =
    get_or-append (before ++ blocks) after [] (length before + i) (omega (arith, length-append before blocks))
    ∙ get_or-append-add before blocks i []

-- A run of blocks among all blocks, whose numbers stand in front of the array.
module _ (numbers : List ℕ) (field : ℕ) (before blocks after : List Block) (is_field : field < field_count)
    (all_shaped : Every (λ b. length b ≡ field_count) (before ++ blocks ++ after))
    (front : InFront (before ++ blocks ++ after) numbers) where
  -- a block of the run is one of all blocks
  is_block : (i : ℕ) → i < length blocks → length before + i < length (before ++ blocks ++ after)
  is_block i h = omega (arith, length-append (before ++ blocks) after, length-append before blocks)

  -- it has a span for each field
  all_spans : (i : ℕ) → i < length blocks → length (get_or blocks i []) ≡ field_count
  all_spans i h = ap (λ (b : Block). length b) (sym (block_at before blocks after i h)) ∙ every_at (length before + i) [] all_shaped (is_block i h)

  -- where its numbers stand in the array
  number_there : (i k : ℕ) → i < length blocks → k < block_bounds → get_or numbers (block_bounds * (length before + i) + k) 0 ≡ get_or (bounds (get_or blocks i [])) k 0
  number_there i k h small =
      let at = block_bounds * (length before + i) + k in
      sym (get_or-take (length (numbers_of (before ++ blocks ++ after))) numbers at 0 (omega (arith, is_block i h, length_numbers all_shaped)))
      ∙ ap (λ (l : List ℕ). get_or l at 0) front
      ∙ number_at all_shaped (length before + i) k (is_block i h) small
      ∙ ap (λ (b : Block). get_or (bounds b) k 0) (block_at before blocks after i h)

  -- its span in the array is its own
  span_there : (i : ℕ) → i < length blocks → span_in numbers field (length before + i) ≡ span_of field (get_or blocks i [])
  span_there i h =
      let b = get_or blocks i [] in
      let within : field < length b = omega (arith, all_spans i h) in
      let at_high : block_bounds * (length before + i) + 2 * field + 1 ≡ block_bounds * (length before + i) + (2 * field + 1) = omega arith in
      let same_low = number_there i (2 * field) h (omega arith) ∙ low_bound b field within in
      let same_high = ap (λ (k : ℕ). get_or numbers k 0) at_high ∙ number_there i (2 * field + 1) h (omega arith) ∙ high_bound b field within in
      λ t. record { low = same_low t; high = same_high t }

  -- the spans of the run in the array are those of its blocks
  pub spans_between : spans_in numbers field (length before) (length blocks) ≡ map (span_of field) blocks
  spans_between =
      let count = length-map blocks (span_of field) in
      ap (spans_in numbers field (length before)) (sym count)
      ∙ spans_are numbers field (length before) (map (span_of field) blocks)
      (λ i h. span_there i (omega (arith, count)) ∙ sym (get_or-map (span_of field) blocks i []))
