-- The walk that stores the bounds of the records' blocks, record by record. Assumes nothing.
use mathlib.Core.Path.{◌≡◌, sym, ap, ◌∙◌}
use mathlib.Core.List.{List, [], ◌∷◌, ◌++◌, append-nil, map}
use Prim.Native.Nat.{ℕ, ◌+◌, ◌*◌, ◌≤◌, ◌<◌}
use native.Mathlib.Numerals.{add-one}
use native.Mathlib.Omega.{arith}
use lib.ListN.{length, get_or, take, length-map, get_or-map}
use lib.Seq.{sets, length-take-le, take-suc}
use Rattle.meaning.specs.Blocks.{Block}
use Rattle.meaning.specs.Buffers.{bounds}
use Rattle.meaning.specs.Sizes.{field_count, block_bounds}
use Rattle.meaning.proofs.RecordsEvery.{every_take}
use Rattle.bounds.specs.Spans.{numbers_of}
use Rattle.bounds.proofs.BlockSpans.{length_numbers}
use Rattle.bounds.proofs.Storing.{stored_behind}
use Rattle.bounds.proofs.Within.{every_mapped}

module _ {A : Type 0} (block_in : A → Block) (records : List A) (before : ℕ) (l : List ℕ) where
  -- in the array l the numbers of the first i blocks are stored behind `before` blocks
  abbrev pub StoredUpTo : ℕ → List ℕ → Type 0
  StoredUpTo i numbers = numbers ≡ sets l (block_bounds * before) (numbers_of (take i (map block_in records)))

  module _ (shaped : (a : A) → length (block_in a) ≡ field_count) where
    -- the numbers of the first i blocks
    numbers_up_to : (i : ℕ) → i ≤ length records → length (numbers_of (take i (map block_in records))) ≡ block_bounds * i
    numbers_up_to i h =
        length_numbers (every_take i (every_mapped block_in shaped records))
        ∙ ap (λ (k : ℕ). block_bounds * k) (length-take-le i (map block_in records) (omega (arith, length-map records block_in)))

    -- one block more
    pub blocks_more : {i : ℕ} {numbers exit : List ℕ} (a : A) (b : Block) → i < length records → a ≡ get_or records i a → b ≡ block_in a
        → StoredUpTo i numbers
        → exit ≡ sets numbers (block_bounds * (before + i)) (bounds b)
        → StoredUpTo (i + 1) exit
    unfolding numbers_of
    blocks_more {i} {numbers} a b h is_record is_block stored is_exit =
        let blocks = map block_in records in
        let its = get_or-map block_in records i a ∙ ap block_in (sym is_record) ∙ sym is_block in
        let next : take (i + 1) blocks ≡ take i blocks ++ (b ∷ []) =
        rw (add-one i)
        (take-suc blocks i (block_in a) (omega (arith, length-map records block_in)) ∙ ap (λ (c : Block). take i blocks ++ (c ∷ [])) its) in
        is_exit
        ∙ (λ t. sets (stored t) (block_bounds * (before + i)) (sym (append-nil (bounds b)) t))
        ∙ stored_behind l (block_bounds * before) (block_bounds * (before + i)) (take i blocks) (b ∷ []) (omega (arith, numbers_up_to i (omega arith)))
        ∙ ap (λ (bs : List Block). sets l (block_bounds * before) (numbers_of bs)) (sym next)
