-- What the sizes are for document 01's fields and limits. Assumes nothing.
use mathlib.Core.Path.{◌≡◌, refl}
use Prim.Native.Nat.{◌^◌}
use Rattle.meaning.specs.Sizes.{field_count, block_bounds, row_numbers, most_listed, most_blocks, all_bounds, most_strips}
use Rattle.meaning.specs.Sizes.{field_places, all_places, field_masks, all_masks, front_words, all_words, unmet_rank, good_rank}

-- they hang together as they should: with four fields, and 64, 32 and 64 records
pub sizes_agree : (field_count ≡ 4) × (block_bounds ≡ 8) × (row_numbers ≡ 10) × (most_blocks ≡ 160) × (all_bounds ≡ 1280) × (most_strips ≡ 321)
    × (field_places ≡ 322) × (all_places ≡ 1288) × (field_masks ≡ 963) × (all_masks ≡ 3852) × (front_words ≡ 68) × (all_words ≡ 3920)
    × (unmet_rank ≡ 65) × (good_rank ≡ 66) × (most_strips ^ field_count ≡ most_listed)
sizes_agree = (refl, refl, refl, refl, refl, refl, refl, refl, refl, refl, refl, refl, refl, refl, refl)
