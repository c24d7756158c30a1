-- Laws of the records of a text, and of the loop that counts them. Assumes nothing.
use mathlib.Core.Bool.{Bool, true, false, cond}
use mathlib.Core.List.{List, [], ◌∷◌}
use mathlib.Core.Path.{◌≡◌, refl, ap, sym, ◌∙◌}
use native.Mathlib.Decide.{dec_lt}
use native.Mathlib.Nat.{not-suc-le-zero}
use native.Mathlib.Omega.{arith}
use Prim.Native.Nat.{ℕ, suc, ◌+◌, ◌-◌, ◌≤◌, ◌<◌, min}
use borrow.Author.Tests.{ne_eqb}
use denote.Ref.{Bor}
use lib.Dec.{eqb}
use lib.ListN.{length, get_or, drop}
use Rattle.contracts.specs.Answers.{seen}
use Rattle.parts.specs.Parts.{Piece, parts, pieces_from, shown}
use Rattle.parts.specs.Words.{newline}
use Rattle.parts.proofs.Parting.{part_here, parts_last, pieces_next, pieces_last, part_fits, at_end, shown_bytes}
use Rattle.lines.specs.Reader.{line_at, line_from, cursor_after}
use Rattle.lines.specs.declared.Cursor.{Cursor}
use Rattle.lines.proofs.Stepping.{place_after_lem}
use Rattle.records.specs.Records.{named}
use Rattle.lookup.specs.Lookups.{records_among, nowhere, number_of, record_of}

-- counting down: past the first, at it, and where none is left
number_some : (n : ℕ) (ps : List Piece) → 0 < n → number_of n ps ≡ get_or ps (n - 1) nowhere
number_some n ps h = simp (ne_eqb n 0 (λ e. absurd (omega arith)))

number_past : (n m : ℕ) (p : Piece) (ps : List Piece) → (n ≡ 1 → ⊥) → m ≡ n - 1 → number_of n (p ∷ ps) ≡ number_of m ps
number_past n m p ps other e =
    elim (dec_lt 0 n) [
      | yes h ↦
          let less : n - 1 ≡ suc (m - 1) = omega arith in
          number_some n (p ∷ ps) h ∙ ap (λ (i : ℕ). get_or (p ∷ ps) i nowhere) less ∙ sym (number_some m ps (omega arith))
      | no h ↦
          let none : n ≡ 0 = omega arith in
          let none' : m ≡ 0 = omega arith in
          ap (λ (i : ℕ). number_of i (p ∷ ps)) none ∙ ap (λ (i : ℕ). number_of i ps) (sym none')
    ]

number_first : (n : ℕ) (p : Piece) (ps : List Piece) → n ≡ 1 → number_of n (p ∷ ps) ≡ p
number_first n p ps e = ap (λ (k : ℕ). number_of k (p ∷ ps)) e

number_none : (n : ℕ) → number_of n [] ≡ nowhere
number_none n = go (eqb n 0)
  where
    go : (b : Bool) → cond b nowhere nowhere ≡ nowhere
    go true = refl
    go false = refl

unlike_empty : (word : List ℕ) → 0 < length word → named word [] ≡ false
unlike_empty [] h = absurd (not-suc-le-zero h)
unlike_empty (x ∷ xs) h = refl

-- the records among the lines of a text from a place on
abbrev rest : List ℕ → List ℕ → ℕ → List Piece
rest word t at = records_among word (pieces_from at (parts newline (drop at t)))

-- the place behind it
abbrev after : List ℕ → ℕ → ℕ
after t at = (at + length (line_at t at)) + 1

-- what is told of the line's bytes is told of the line
pub line_told : (s r : Bor (List ℕ)) (at : ℕ) (word : List ℕ) (told : Bool)
    → seen r ≡ shown s (line_from s.now at) → told ≡ named word r.now → named word (line_at s.now at) ≡ told
line_told s r at word told e f = ap (named word) (sym (shown_bytes s r (line_from s.now at) e)) ∙ sym f

-- where the search stands: the record wanted is that one, counted from the cursor on
pub record Seeks (word t : List ℕ) (n : ℕ) (c : Cursor) (left : ℕ) : Type 0 where
  pub within : c.at ≤ length t + 1
  pub wanted : record_of word t n ≡ number_of left (rest word t c.at)

pub seek_first : (word t : List ℕ) (n : ℕ) → Seeks word t n (record { at = 0; line = 1 }) n
seek_first word t n = record { within = omega arith; wanted = refl }

module _ (word : List ℕ) (some_word : 0 < length word) (t : List ℕ) where
  -- behind the last line there is none
  over : (at : ℕ) → length t ≤ at → rest word t at ≡ []
  over at h = ap (λ (ps : List (List ℕ)). records_among word (pieces_from at ps)) (at_end newline t at h) ∙ simp (unlike_empty word some_word)

  -- the line there is looked at before those behind it
  first : (at : ℕ) → at ≤ length t
      → rest word t at ≡ cond (named word (line_at t at)) (record { place = at; bytes = line_at t at } ∷ rest word t (after t at)) (rest word t (after t at))
  first at h =
      let end = at + length (line_at t at) in
      let here : Piece = record { place = at; bytes = line_at t at } in
      elim (dec_lt (at + length (line_at t at)) (length t)) [
        | yes l ↦
            let behind = pieces_from (end + 1) (parts newline (drop (end + 1) t)) in
            let first = ap (λ (x : List ℕ). record { place = at; bytes = x } ∷ behind) (sym (part_here newline t at end refl)) in
            ap (records_among word) (pieces_next newline t at end refl h l ∙ first)
        | no l ↦
            let all : line_at t at ≡ drop at t = ap (λ (ps : List (List ℕ)). get_or ps 0 []) (parts_last newline t at end refl (omega arith)) in
            ap (records_among word) (pieces_last newline t at end refl h (omega arith) ∙ ap (λ (x : List ℕ). record { place = at; bytes = x } ∷ []) (sym all))
            ∙ ap (λ (ps : List Piece). cond (named word (line_at t at)) (here ∷ ps) ps) (sym (over (end + 1) (omega arith)))
      ]

  first_is : (at : ℕ) → at ≤ length t → named word (line_at t at) ≡ true
      → rest word t at ≡ record { place = at; bytes = line_at t at } ∷ rest word t (after t at)
  first_is at h e = first at h ∙ simp e

  first_other : (at : ℕ) → at ≤ length t → named word (line_at t at) ≡ false → rest word t at ≡ rest word t (after t at)
  first_other at h e = first at h ∙ simp e

  module _ (n : ℕ) (c : Cursor) (left : ℕ) (h : Seeks word t n c left) where
    pub seek_none : length t ≤ c.at → record_of word t n ≡ nowhere
    seek_none out = h.wanted ∙ ap (number_of left) (over c.at out) ∙ number_none left

    -- one turn: the line at the cursor is a record or not
    module _ (inside : c.at < length t) where
      pub seek_found : named word (line_at t c.at) ≡ true → left ≡ 1 → record_of word t n ≡ line_from t c.at
      seek_found e one =
          let here : c.at ≡ min c.at (length t) = omega arith in
          h.wanted
          ∙ ap (number_of left) (first_is c.at (omega arith) e)
          ∙ number_first left (record { place = c.at; bytes = line_at t c.at }) (rest word t (after t c.at)) one
          ∙ ap (λ (k : ℕ). record { place = k; bytes = line_at t c.at }) here

      module _ (c' : Cursor) (moved : c' ≡ cursor_after t c) where
        next_is : c'.at ≡ after t c.at
        next_is = ap (λ (x : Cursor). x.at) moved ∙ place_after_lem t c.at (omega arith)

        next_within : c'.at ≤ length t + 1
        next_within = omega (arith, next_is, part_fits newline t c.at (c.at + length (line_at t c.at)) refl (omega arith))

        pub seek_past : named word (line_at t c.at) ≡ true → (left ≡ 1 → ⊥) → (left' : ℕ) → left' ≡ left - 1 → Seeks word t n c' left'
        seek_past e other left' less =
            record {
              within = next_within;
              wanted =
                  h.wanted
                  ∙ ap (number_of left) (first_is c.at (omega arith) e)
                  ∙ number_past left left' (record { place = c.at; bytes = line_at t c.at }) (rest word t (after t c.at)) other less
                  ∙ ap (λ (k : ℕ). number_of left' (rest word t k)) (sym next_is);
            }

        pub seek_other : named word (line_at t c.at) ≡ false → Seeks word t n c' left
        seek_other e =
            record {
              within = next_within;
              wanted = h.wanted ∙ ap (number_of left) (first_other c.at (omega arith) e) ∙ ap (λ (k : ℕ). number_of left (rest word t k)) (sym next_is);
            }
