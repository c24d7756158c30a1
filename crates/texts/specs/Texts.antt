-- Reading a text line by line, for every kind of line. "Order: 1, 2 over the whole text; then the first line with a refusal."
use Rattle.std.specs.Prelude.{Bool, cond, not, ◌&&◌, List, [], ◌∷◌, ℕ, suc, ◌-◌, eqb, ltb, length, get_or, Result, Ok, Err}
use Rattle.parts.specs.Parts.{parts}
use Rattle.parts.specs.Words.{newline}
use Rattle.sets.specs.declared.Reason.TheVariants.{TooLong, Unended}
use Rattle.sets.specs.declared.Reason.{Reason}
use Rattle.sets.specs.declared.Refusal.{Refusal}

-- "Each text is at most 32,768 bytes"
abbrev pub most_bytes : ℕ
most_bytes = 32768

-- "text not empty and its last byte not 10"
abbrev pub unended : List ℕ → Bool
unended text = ltb 0 (length text) && not (eqb (get_or text (length text - 1) 0) newline)

-- a refusal by reason, line and field
abbrev pub refusal : Reason → ℕ → ℕ → Refusal
refusal reason line field = record { reason = reason; line = line; field = field }

-- the text's lines; what stands behind the last byte 10 is a line too, and an empty one says nothing
abbrev pub lines_of : List ℕ → List (List ℕ)
lines_of text = parts newline text

-- 1 and 2, over the whole text; nothing is refused if it is neither
unfoldable pub refuse_text : List ℕ → Result (Unit {0}) Refusal
refuse_text text =
    cond (ltb most_bytes (length text)) (Err (refusal TooLong 0 0))
    (cond (unended text) (Err (refusal Unended (length (lines_of text)) 0))
    (Ok tt))

-- what a line says: what is read then, or the reason and field of a refusal
pub data Said (S : Type 0) : Type 0 where
  goes : S → Said S
  stops : Reason → ℕ → Said S

-- go on with what is read then, or stop at the refusal
abbrev pub on_said : {S R : Type 0} → Said S → (S → R) → (Reason → ℕ → R) → R
on_said (goes s) go stop = go s
on_said (stops reason field) go stop = stop reason field

-- what the call that reads a line answers, by the line's number and what it says
abbrev pub line_told : {S : Type 0} → ℕ → Said S → Result (Unit {0}) Refusal
line_told n x = on_said x (λ s. Ok tt) (λ reason field. Err (refusal reason n field))

-- and what is read then: a refused line adds nothing
abbrev pub line_read : {S : Type 0} → S → Said S → S
line_read s x = on_said x (λ s'. s') (λ reason field. s)

-- all lines are read: what is read, and no refusal
abbrev pub all_read : {S : Type 0} → S → S × Result (Unit {0}) Refusal
all_read s = (s, Ok tt)

-- what was read before a refusal, and that refusal
abbrev pub read_before : {S : Type 0} → S → Refusal → S × Result (Unit {0}) Refusal
read_before s r = (s, Err r)

-- stop at what is refused of a text as a whole, or go on to its lines
abbrev pub on_text : {R : Type 0} → Result (Unit {0}) Refusal → (Refusal → R) → R → R
on_text (Ok u) stop go = go
on_text (Err r) stop go = stop r

-- said: what a line says after what is read so far; all: the answer where no line is refused; refused: the answer to a refusal,
-- after what was read before it
module _ {S R : Type 0} (said : S → List ℕ → Said S) (all : S → R) (refused : S → Refusal → R) where
  -- the lines, of which the first has the number n: the first that is refused decides
  abbrev pub read_from : ℕ → S → List (List ℕ) → R
  read_from n s [] = all s
  read_from n s (l ∷ ls) = on_said (said s l) (λ s'. read_from (suc n) s' ls) (λ reason field. refused s (refusal reason n field))

  -- the whole text, where nothing is read yet but s
  abbrev pub read_text : S → List ℕ → R
  read_text s text = on_text (refuse_text text) (refused s) (read_from 1 s (lines_of text))
