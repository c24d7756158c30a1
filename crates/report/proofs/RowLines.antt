-- The rows of a listing as lines. Assumes nothing.
use mathlib.Core.Path.{◌≡◌, refl, sym, ap, ◌∙◌}
use mathlib.Core.List.{List, [], ◌∷◌, ◌++◌, append_assoc, append-nil}
use Prim.Native.Nat.{ℕ, zero, suc, ◌+◌, ◌*◌, ◌-◌, ◌/◌, ◌≤◌, min}
use native.Mathlib.Numerals.{add-one}
use native.Mathlib.Omega.{arith}
use lib.ListN.{length, take, drop, get_or, length-take, length-drop, drop_of_length-le}
use lib.Seq.{sets, sets-eq, get_or-append-add, drop-append-add, length-take-le, take_at}
use Rattle.meaning.specs.Blocks.{Block}
use Rattle.meaning.specs.Buffers.{bounds, spans_of, row, rows, room, over, written}
use Rattle.meaning.specs.Fields.{fields}
use Rattle.meaning.specs.Labels.{Label, kind, rule}
use Rattle.meaning.specs.Listings.{Listed}
use Rattle.meaning.specs.Records.{Every, every_none, every_more}
use Rattle.meaning.specs.Sizes.{field_count, block_bounds, row_numbers}
use Rattle.meaning.proofs.BufferWritten.{bounds_length, spans_of_bounds, row_length_lem}
use Rattle.meaning.proofs.FormLaws.{form_shaped}
use Rattle.meaning.proofs.ListingForm.{InForm}
use Rattle.meaning.proofs.RecordsEvery.{every_take}
use Rattle.printing.specs.Lines.{block_line}
use Rattle.report.specs.Inner.{bounds_at, row_line, row_lines}
use Rattle.report.specs.Runs.{most_block_lines, block_lines}

-- one row more
pub lines_more : (rs : List ℕ) (k : ℕ) → row_lines rs (k + 1) ≡ row_lines rs k ++ row_line rs (row_numbers * k)
lines_more rs k = ap (row_lines rs) (add-one k)

-- kind, rule and bounds of a row make its block's line
pub row_line_lem : (rs : List ℕ) (from k r : ℕ) (b : Block) → k ≡ get_or rs from 0 → r ≡ get_or rs (from + 1) 0 → bounds b ≡ bounds_at rs (from + 2)
    → block_line k r b ≡ row_line rs from
unfolding row_line
row_line_lem rs from k r b is_kind is_rule are_bounds =
    let is_block : b ≡ spans_of (bounds_at rs (from + 2)) = sym (spans_of_bounds b) ∙ ap spans_of are_bounds in
    λ i. block_line (is_kind i) (is_rule i) (is_block i)

-- the bounds from a place on, copied into an array for a block
pub bounds_copied : (l rs : List ℕ) (from end : ℕ) → end ≡ from + block_bounds → length l ≡ block_bounds → end ≤ length rs
    → sets l 0 (take (end - from) (drop from rs)) ≡ bounds_at rs from
bounds_copied l rs from end is_end room within =
    let so_many : end - from ≡ block_bounds = omega arith in
    let long : length (bounds_at rs from) ≡ block_bounds = length-take-le block_bounds (drop from rs) (omega (arith, length-drop from rs)) in
    let none : drop (0 + length (bounds_at rs from)) l ≡ [] = drop_of_length-le l {i = 0 + length (bounds_at rs from)} (omega arith) in
    ap (λ (k : ℕ). sets l 0 (take k (drop from rs))) so_many
    ∙ sets-eq (bounds_at rs from) l 0 (omega arith)
    ∙ ap (λ (rest : List ℕ). bounds_at rs from ++ rest) none
    ∙ append-nil (bounds_at rs from)

-- behind other numbers a row has the same line
shifted : (front xs : List ℕ) (i k : ℕ) → i ≡ length front + k → get_or (front ++ xs) i 0 ≡ get_or xs k 0
shifted front xs i k e = ap (λ (j : ℕ). get_or (front ++ xs) j 0) e ∙ get_or-append-add front xs k 0

bounds_shifted : (front xs : List ℕ) (i k : ℕ) → i ≡ length front + k → bounds_at (front ++ xs) i ≡ bounds_at xs k
bounds_shifted front xs i k e = ap (take block_bounds) (ap (λ (j : ℕ). drop j (front ++ xs)) e ∙ drop-append-add front xs k)

row_shifted : (front xs : List ℕ) (i m : ℕ) → i ≡ length front + m → row_line (front ++ xs) i ≡ row_line xs m
unfolding row_line
row_shifted front xs i m e =
    let is_kind = shifted front xs i m e in
    let is_rule = shifted front xs (i + 1) (m + 1) (omega (arith, e)) in
    let is_block = ap spans_of (bounds_shifted front xs (i + 2) (m + 2) (omega (arith, e))) in
    λ t. block_line (is_kind t) (is_rule t) (is_block t)

-- the first row apart
lines_first : (front xs : List ℕ) (k : ℕ) → length front ≡ row_numbers → row_lines (front ++ xs) (suc k) ≡ row_line (front ++ xs) 0 ++ row_lines xs k
lines_first front xs zero so_long = sym (append-nil (row_line (front ++ xs) 0))
lines_first front xs (suc k) so_long =
    (λ i. lines_first front xs k so_long i ++ row_shifted front xs (row_numbers * suc k) (row_numbers * k) (omega (arith, so_long)) i)
    ∙ append_assoc (row_line (front ++ xs) 0) (row_lines xs k) (row_line xs (row_numbers * k))

-- a block's row is its line
block_row : (k r : ℕ) (b : Block) (xs : List ℕ) → length b ≡ field_count → row_line ((k ∷ r ∷ bounds b) ++ xs) 0 ≡ block_line k r b
block_row k r b xs shaped =
    let in_front : take block_bounds (bounds b ++ xs) ≡ bounds b = take_at (bounds b) xs block_bounds (omega (arith, bounds_length b, shaped)) in
    sym (row_line_lem ((k ∷ r ∷ bounds b) ++ xs) 0 k r b refl refl (sym in_front))

-- the rows of blocks are their lines
lines_of : {bs : List (Listed Label)} (rest : List ℕ) → Every (InForm fields) bs → row_lines (rows bs ++ rest) (length bs) ≡ block_lines bs
unfolding rows row
lines_of rest every_none = refl
lines_of rest (every_more {x = b} {xs = bs} formed others) =
    ap (λ (xs : List ℕ). row_lines xs (suc (length bs))) (append_assoc (row b) (rows bs) rest)
    ∙ lines_first (row b) (rows bs ++ rest) (length bs) (row_length_lem fields b formed)
    ∙ (λ i. block_row (kind b.label) (rule b.label) b.block (rows bs ++ rest) (form_shaped fields b.block formed) i ++ lines_of rest others i)

-- the listing's first blocks, in a buffer with room for as many as are printed, as lines
pub listing_lines : (blocks : List (Listed Label)) (before : List ℕ) → length before ≡ most_block_lines * row_numbers → Every (InForm fields) blocks
    → row_lines (written fields blocks before) (min (length blocks) most_block_lines) ≡ block_lines (take most_block_lines blocks)
unfolding written
listing_lines blocks before long formed =
    let room_is : room fields before ≡ most_block_lines = ap (λ (n : ℕ). n / row_numbers) long in
    let shown = take most_block_lines blocks in
    let count : min (length blocks) most_block_lines ≡ length shown = omega (arith, length-take most_block_lines blocks) in
    (λ i. row_lines (over (rows (take (room_is i) blocks)) before) (count i))
    ∙ lines_of (drop (length (rows shown)) before) (every_take most_block_lines formed)
