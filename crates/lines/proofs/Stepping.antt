-- Within a text, and while 32 bits hold the line number, the next cursor is behind the line and its byte 10; a line that was found
-- tells it by its length. Assumes nothing.
use mathlib.Core.List.{List}
use mathlib.Core.Path.{◌≡◌, refl, ap, ◌∙◌}
use native.Mathlib.Omega.{arith}
use Prim.Native.Nat.{ℕ, ◌+◌, ◌-◌, ◌≤◌, ◌<◌, min}
use denote.Ref.{Bor}
use lib.ListN.{length}
use Rattle.contracts.specs.Answers.{seen}
use Rattle.parts.specs.Parts.{shown}
use Rattle.parts.specs.Words.{newline}
use Rattle.parts.proofs.Parting.{part_fits, shown_bytes}
use Rattle.lines.specs.Reader.{line_at, line_from, place_after, last_place, place_behind, last_line, line_after, cursor_after, cursor_behind}
use Rattle.lines.specs.declared.Cursor.{Cursor}

pub place_after_lem : (text : List ℕ) (at : ℕ) → at ≤ length text → place_after text at ≡ (at + length (line_at text at)) + 1
place_after_lem text at h =
    let here : min at (length text) ≡ at = omega arith in
    ap (λ (k : ℕ). (k + length (line_at text at)) + 1) here

pub cursor_after_lem : (text : List ℕ) (c : Cursor) → c.at ≤ length text → c.line < last_line
    → cursor_after text c ≡ record { at = (c.at + length (line_at text c.at)) + 1; line = c.line + 1 }
cursor_after_lem text c h k =
    let next : min (c.line + 1) last_line ≡ c.line + 1 = omega arith in
    λ i. record { at = place_after_lem text c.at h i; line = next i }

-- and it is nearer to the end
pub nearer : (text : List ℕ) (c c' : Cursor) → c.at < length text → c' ≡ cursor_after text c → (length text + 1) - c'.at < (length text + 1) - c.at
nearer text c c' h e =
    let is : c'.at ≡ (c.at + length (line_at text c.at)) + 1 = ap (λ (x : Cursor). x.at) e ∙ place_after_lem text c.at (omega arith) in
    omega (arith, is)

-- the cursor behind a line as long as the one there is the next
pub behind_after : (text : List ℕ) (c : Cursor) → c.at ≤ length text → length text < last_place
    → cursor_behind c (length (line_at text c.at)) ≡ cursor_after text c
behind_after text c h small =
    let ends = part_fits newline text c.at (c.at + length (line_at text c.at)) refl h in
    let same : place_behind c.at (length (line_at text c.at)) ≡ place_after text c.at = omega (arith, ends) in
    λ i. record { at = same i; line = line_after c.line }

-- a part of a text that is shown to be the line there: its bytes, and what its length tells
module _ (text found : Bor (List ℕ)) (c : Cursor) (is : seen found ≡ shown text (line_from text.now c.at)) where
  pub found_bytes : found.now ≡ line_at text.now c.at
  found_bytes = shown_bytes text found (line_from text.now c.at) is

  module _ (inside : c.at < length text.now) (small : length text.now < last_place)
      (c' : Cursor) (told : c' ≡ cursor_behind c (length found.now)) where
    pub found_after : c' ≡ cursor_after text.now c
    found_after = told ∙ ap (λ (l : List ℕ). cursor_behind c (length l)) found_bytes ∙ behind_after text.now c (omega arith) small

    pub found_nearer : (length text.now + 1) - c'.at < (length text.now + 1) - c.at
    found_nearer = nearer text.now c c' inside found_after
