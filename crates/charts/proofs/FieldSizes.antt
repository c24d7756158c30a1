-- The size of a field is one more than the widest block's high bound there. Assumes nothing.
use mathlib.Core.List.{List}
use mathlib.Core.Path.{◌≡◌, ap, ◌∙◌}
use Prim.Native.Nat.{ℕ, zero, suc, ◌+◌, ◌*◌, ◌<◌}
use native.Mathlib.Omega.{arith}
use lib.ListN.{length, get_or}
use Rattle.meaning.specs.Blocks.{widest}
use Rattle.meaning.specs.Buffers.{bounds}
use Rattle.meaning.specs.Fields.{widths, fields}
use Rattle.meaning.specs.Records.{Every, every_none, every_more}
use Rattle.meaning.specs.Sizes.{field_count}
use Rattle.blocks.proofs.Widest.{positive}

-- for every list of sizes, none of which is 0
high_of_widest : {ns : List ℕ} → Every (λ n. 0 < n) ns → (field : ℕ) → field < length ns
    → get_or (bounds (widest ns)) (2 * field + 1) 0 + 1 ≡ get_or ns field 0
unfolding bounds
high_of_widest every_none field h = absurd (omega arith)
high_of_widest (every_more some later) zero h = omega arith
high_of_widest (every_more {xs = ns} some later) (suc field) h =
    let more : 2 * suc field + 1 ≡ suc (suc (2 * field + 1)) = omega arith in
    rw more (high_of_widest later field (omega arith))

-- for document 01's fields
pub size_is : (numbers : List ℕ) (field : ℕ) → numbers ≡ bounds (widest fields) → field < field_count
    → get_or numbers (2 * field + 1) 0 + 1 ≡ get_or fields field 0
size_is numbers field is_widest h =
    ap (λ (l : List ℕ). get_or l (2 * field + 1) 0 + 1) is_widest ∙ high_of_widest (positive widths) field h
