-- Rows written one after the other while there is room leave the buffer as document 01 says. Assumes nothing.
use mathlib.Core.Path.{◌≡◌, refl, sym, ap, ◌∙◌, subst}
use mathlib.Core.List.{List, [], ◌∷◌, ◌++◌, map}
use Prim.Native.Nat.{ℕ, suc, ◌+◌, ◌*◌, ◌-◌, ◌/◌, ◌≤◌}
use native.Mathlib.Omega.{arith}
use native.Mathlib.Decide.{dec_lt}
use lib.ListN.{length, take, drop}
use lib.Seq.{sets, sets-eq, length-sets, take-nil}
use Rattle.meaning.specs.Buffers.{row, rows, room, written}
use Rattle.meaning.specs.Fields.{fields}
use Rattle.meaning.specs.Labels.{Label}
use Rattle.meaning.specs.Listings.{Listed}
use Rattle.meaning.specs.Records.{Every, every_none, every_more}
use Rattle.meaning.specs.Sizes.{row_numbers}
use Rattle.meaning.proofs.BufferWritten.{row_length_lem, rows_fit}
use Rattle.meaning.proofs.ListingForm.{InForm}
use Rattle.meaning.proofs.BufferStores.{sets_append}
use Rattle.lister.specs.Rows.{rows_from}
use Rattle.lister.proofs.RowLaws.{row_fits, row_left_out}

-- past the room nothing is written
past_room : (buffer : List ℕ) (t : ℕ) (rs : List (List ℕ)) → length buffer / row_numbers ≤ t → rows_from buffer t rs ≡ buffer
past_room buffer t [] h = refl
past_room buffer t (r ∷ rs) h = ap (λ (b : List ℕ). rows_from b (t + 1) rs) (sym (row_left_out buffer r t h)) ∙ past_room buffer (t + 1) rs (omega arith)

-- within it, the rows that fit, side by side
within_room : (buffer : List ℕ) (t : ℕ) {bs : List (Listed Label)} → Every (InForm fields) bs → t ≤ length buffer / row_numbers
    → rows_from buffer t (map row bs) ≡ sets buffer (row_numbers * t) (rows (take (length buffer / row_numbers - t) bs))
unfolding rows
within_room buffer t every_none h = ap (λ (bs : List (Listed Label)). sets buffer (row_numbers * t) (rows bs)) (sym (take-nil (length buffer / row_numbers - t)))
within_room buffer t (every_more {x = b} {xs = bs} e v) h =
    elim (dec_lt t (length buffer / row_numbers)) [
      | yes l ↦
          let next = sets buffer (row_numbers * t) (row b) in
          let long : length next ≡ length buffer = length-sets buffer (row_numbers * t) (row b) in
          let so_many : length (row b) ≡ row_numbers = row_length_lem fields b e in
          let room_next : length next / row_numbers - (t + 1) ≡ length buffer / row_numbers - (t + 1) = ap (λ (n : ℕ). n / row_numbers - (t + 1)) long in
          let room_left : length buffer / row_numbers - t ≡ suc (length buffer / row_numbers - (t + 1)) = omega arith in
          let behind : row_numbers * (t + 1) ≡ row_numbers * t + length (row b) = omega arith in
          ap (λ (z : List ℕ). rows_from z (t + 1) (map row bs)) (sym (row_fits buffer (row b) t l))
          ∙ within_room next (t + 1) v (subst (λ (n : ℕ). t + 1 ≤ n / row_numbers) (sym long) (omega arith))
          ∙ (λ i. sets next (behind i) (rows (take (room_next i) bs)))
          ∙ sym (sets_append (row b) (rows (take (length buffer / row_numbers - (t + 1)) bs)) buffer (row_numbers * t))
          ∙ ap (λ (k : ℕ). sets buffer (row_numbers * t) (rows (take k (b ∷ bs)))) (sym room_left)
      | no l ↦
          let full : length buffer / row_numbers - t ≡ 0 = omega arith in
          past_room buffer t (map row (b ∷ bs)) (omega arith) ∙ ap (λ (k : ℕ). sets buffer (row_numbers * t) (rows (take k (b ∷ bs)))) (sym full)
    ]

-- all rows, from the front
pub rows_written : (buffer : List ℕ) (bs : List (Listed Label)) → Every (InForm fields) bs → rows_from buffer 0 (map row bs) ≡ written fields bs buffer
unfolding written
rows_written buffer bs e =
    let front = rows (take (room fields buffer) bs) in
    let all : length buffer / row_numbers - 0 ≡ length buffer / row_numbers = omega arith in
    let none : row_numbers * 0 ≡ 0 = omega arith in
    let behind : 0 + length front ≡ length front = omega arith in
    within_room buffer 0 e (omega arith)
    ∙ (λ i. sets buffer (none i) (rows (take (all i) bs)))
    ∙ sets-eq front buffer 0 (omega (arith, rows_fit fields bs buffer e))
    ∙ ap (λ (k : ℕ). front ++ drop k buffer) behind
