-- Rows, and rows in a buffer. Assumes nothing.
use mathlib.Core.Path.{◌≡◌, refl, ap, sym, ◌∙◌}
use mathlib.Core.Bool.{Bool, true, false, cond}
use mathlib.Core.List.{List, [], ◌∷◌, ◌++◌, map, append_assoc}
use Prim.Native.Nat.{ℕ, suc, ◌+◌, ◌*◌, ◌-◌, ◌/◌, ◌≤◌, ◌<◌}
use native.Mathlib.Nat.{add-zero}
use native.Mathlib.Omega.{arith}
use borrow.Author.Tests.{lt-ltb, le-ltb}
use lib.Dec.{ltb}
use lib.ListN.{length, get_or, take, drop, set}
use lib.Seq.{sets, length-sets, sets-eq, take_all}
use borrow.Rule.Slice.PartMut.{put_mid}
use Rattle.std.proofs.lemmas.Slice.{put_mid-paste}
use Rattle.meaning.specs.Buffers as buffers
use Rattle.meaning.specs.Labels.{Label, kind, rule}
use Rattle.meaning.specs.Listings.{Listed, widen}
use Rattle.meaning.specs.Sizes.{block_bounds, row_numbers, field_places}
use Rattle.lister.specs.Rows.{bounds, labelled_row, RowWith, span_at, stretched, row_of, row_at, rows_from}

-- with room for the row, and without
pub row_fits : (buffer row : List ℕ) (t : ℕ) → t < length buffer / row_numbers → sets buffer (row_numbers * t) row ≡ row_at buffer t row
unfolding row_at
row_fits buffer row t h = simp (lt-ltb t (length buffer / row_numbers) h)

pub row_left_out : (buffer row : List ℕ) (t : ℕ) → length buffer / row_numbers ≤ t → buffer ≡ row_at buffer t row
unfolding row_at
row_left_out buffer row t h = simp (le-ltb t (length buffer / row_numbers) h)

-- a row put in place of as many numbers
pub row_put : (buffer row new : List ℕ) (t k : ℕ) → new ≡ row → length row ≡ row_numbers → k ≡ row_numbers → t < length buffer / row_numbers
    → put_mid (row_numbers * t) k buffer new ≡ row_at buffer t row
row_put buffer row new t k e l f h =
    let at = row_numbers * t in
    put_mid-paste at k buffer new row (length row) e (l ∙ sym f) refl
    ∙ ap (λ (z : List ℕ). take at buffer ++ z ++ drop (at + length row) buffer) (take_all (length row) row (omega arith))
    ∙ sym (sets-eq row buffer at (omega arith))
    ∙ row_fits buffer row t h

pub row_length_kept : (buffer row : List ℕ) (t : ℕ) → length (row_at buffer t row) ≡ length buffer
unfolding row_at
row_length_kept buffer row t = either (ltb t (length buffer / row_numbers))
  where
    either : (b : Bool) → length (cond b (sets buffer (row_numbers * t) row) buffer) ≡ length buffer
    either true = length-sets buffer (row_numbers * t) row
    either false = refl

pub rows_length_kept : (buffer : List ℕ) (t : ℕ) (rs : List (List ℕ)) → length (rows_from buffer t rs) ≡ length buffer
rows_length_kept buffer t [] = refl
rows_length_kept buffer t (r ∷ rs) = rows_length_kept (row_at buffer t r) (t + 1) rs ∙ row_length_kept buffer r t

pub rows_append : (buffer : List ℕ) (t : ℕ) (rs qs : List (List ℕ)) → rows_from buffer t (rs ++ qs) ≡ rows_from (rows_from buffer t rs) (t + length rs) qs
rows_append buffer t [] qs = ap (λ (k : ℕ). rows_from buffer k qs) (sym (add-zero t))
rows_append buffer t (r ∷ rs) qs =
    let e : t + 1 + length rs ≡ t + suc (length rs) = omega arith in
    rows_append (row_at buffer t r) (t + 1) rs qs ∙ ap (λ (k : ℕ). rows_from (rows_from (row_at buffer t r) (t + 1) rs) k qs) e

-- the row of a label
pub labelled_row_is : (row : List ℕ) (l : Label) → length row ≡ row_numbers → set (set row 0 (kind l)) 1 (rule l) ≡ labelled_row row l
unfolding labelled_row
labelled_row_is [] l e = absurd (omega arith)
labelled_row_is (x ∷ []) l e = absurd (omega arith)
labelled_row_is (x ∷ y ∷ r) l e = ap (λ (z : List ℕ). kind l ∷ rule l ∷ z) (sym (take_all block_bounds r (omega arith)))

-- rows below the next field, inside a run of this field, are rows below this field
module _ (places : List ℕ) (field : ℕ) (row r : List ℕ) (low high : ℕ) (g : RowWith row field (span_at places field low high) r) where
  row_widened : (b : Listed Label) → row_of places (field + 1) (bounds (field + 1) r) b ≡ row_of places field (bounds field row) (widen low high b)
  unfolding buffers.bounds
  row_widened b =
      let span = span_at places field low high in
      let later = buffers.bounds (stretched places (field + 1) b.block) in
      ap (λ (z : List ℕ). kind b.label ∷ rule b.label ∷ (z ++ later)) g.more
      ∙ ap (λ (z : List ℕ). kind b.label ∷ rule b.label ∷ z) (append_assoc (bounds field row) (span.low ∷ span.high ∷ []) later)

  pub rows_widened : (bs : List (Listed Label))
      → map (row_of places (field + 1) (bounds (field + 1) r)) bs ≡ map (row_of places field (bounds field row)) (map (widen low high) bs)
  rows_widened [] = refl
  rows_widened (b ∷ bs) =
      ap (λ (z : List ℕ). z ∷ map (row_of places (field + 1) (bounds (field + 1) r)) bs) (row_widened b)
      ∙ ap (λ (z : List (List ℕ)). row_of places field (bounds field row) (widen low high b) ∷ z) (rows_widened bs)

-- the strip before `next` has ended where `next` begins
pub span_until : (places : List ℕ) (field low next : ℕ) → 0 < next
    → span_at places field low (next - 1) ≡ record { low = get_or places (field_places * field + low) 0; high = get_or places (field_places * field + next) 0 - 1 }
span_until places field low next h =
    let e : next - 1 + 1 ≡ next = omega arith in
    ap (λ (j : ℕ). record { low = get_or places (field_places * field + low) 0; high = get_or places (field_places * field + j) 0 - 1 }) e
