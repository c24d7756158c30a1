-- Sizes: every number that follows from the fields and the limits has its name here, and is said by what it follows from. Those of
-- arrays are the engine's; no sentence of the papers speaks of them.
use Rattle.std.specs.Prelude.{ℕ, ◌+◌, ◌*◌, length}
use Rattle.meaning.specs.Buffers.{row_length}
use Rattle.meaning.specs.Fields.{fields}
use Rattle.meaning.specs.Form.{most_rules, most_directives, most_exceptions}

-- how many fields there are
abbrev pub field_count : ℕ
field_count = length fields

-- the numbers of a block: two bounds for each field
abbrev pub block_bounds : ℕ
block_bounds = 2 * field_count

-- the numbers of a listed block: its kind, its rule and its bounds
abbrev pub row_numbers : ℕ
row_numbers = row_length fields

-- "The total is at most 10,617,447,681."
abbrev pub most_listed : ℕ
most_listed = 10_617_447_681

-- the blocks of sets within their limits
abbrev pub most_blocks : ℕ
most_blocks = most_rules + most_directives + most_exceptions

-- the bounds of all blocks, side by side
abbrev pub all_bounds : ℕ
all_bounds = block_bounds * most_blocks

-- the strips of a field: one from 0 on, and two more for each block, where it begins and where it has just ended
abbrev pub most_strips : ℕ
most_strips = 2 * most_blocks + 1

-- the places of a field: where each strip begins, and the size
abbrev pub field_places : ℕ
field_places = most_strips + 1

-- the places of all fields, one field behind the other
abbrev pub all_places : ℕ
all_places = field_places * field_count

-- the kinds of records that a strip has a mask for: rules, directives, exceptions
abbrev pub mask_kinds : ℕ
mask_kinds = 3

-- the binary digits of a mask
abbrev pub mask_digits : ℕ
mask_digits = 64

-- the masks of a field, and of all fields one behind the other
abbrev pub field_masks : ℕ
field_masks = mask_kinds * most_strips

abbrev pub all_masks : ℕ
all_masks = field_masks * field_count

-- what stands where among the words of a walk: which rules accept; which directives ask for accept; the exceptions of these directives,
-- and those of the others; and from there on the exceptions of each directive
abbrev pub accepting_rules : ℕ
accepting_rules = 0

abbrev pub accepting_directives : ℕ
accepting_directives = 1

abbrev pub of_accepting : ℕ
of_accepting = 2

abbrev pub of_denying : ℕ
of_denying = 3

abbrev pub first_owner : ℕ
first_owner = 4

-- the words before the masks: the exceptions of each directive take as many as a mask has digits
abbrev pub front_words : ℕ
front_words = first_owner + mask_digits

-- all words of a walk
abbrev pub all_words : ℕ
all_words = all_masks + front_words

-- the rank of an unmet label, behind every rule's number, and that of a good one, which comes last
abbrev pub unmet_rank : ℕ
unmet_rank = most_rules + 1

abbrev pub good_rank : ℕ
good_rank = unmet_rank + 1
