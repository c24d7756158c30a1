-- Cells: the rules, directives and exceptions that are left in a cell, and the label that they give.
use Rattle.std.specs.Prelude.{Bool, true, false, ◌&&◌, ◌||◌, cond, List, [], ◌∷◌, ◌≡◌, ℕ, zero, suc, ◌+◌, ◌*◌, ◌/◌, ◌%◌, ◌≤◌, eqb, ltb, length, get_or, drop}
use Rattle.std.specs.Int.Bits.{bit_and, bit_xor}
use Rattle.std.specs.Int.Count.{count_trailing_zeros}
use Rattle.meaning.specs.Labels.{Label, kind, rule, judged}
use Rattle.meaning.specs.Listings.{Agree}
use Rattle.meaning.specs.Records.{nothing, found}
use Rattle.meaning.specs.Rules.{accept, deny}
use Rattle.meaning.specs.Sizes.{most_strips, mask_kinds, mask_digits, field_masks, first_owner, front_words, accepting_rules, accepting_directives, of_accepting, of_denying}
use Rattle.cells.specs.declared.Chart as lent
use Rattle.cells.specs.declared.Left.{Left}

-- What a walk looks at. The words are: which rules accept; which directives ask for accept; the exceptions of the directives that
-- accept, and of those that deny; the exceptions of each directive, for as many as a mask has digits; and behind these front words for
-- each strip of each field the rules, directives and exceptions whose span holds it. The counts are the fields' numbers of strips.
pub record Chart : Type 0 where
  pub words : List ℕ
  pub counts : List ℕ

abbrev pub chart : List ℕ → List ℕ → Chart
chart words counts = record { words = words; counts = counts }

-- a chart that a walk is lent
abbrev pub chart_of : lent.Chart → Chart
chart_of c = chart c.words.now c.counts.now

-- there are words for every strip, and no field has more strips than there is room for
pub record Formed (w : Chart) : Type 0 where
  pub long : length w.words ≡ field_masks * length w.counts + front_words
  pub few : (field : ℕ) → get_or w.counts field 0 ≤ most_strips

-- a directive in `rest` has no exception in e; the lowest digit of `rest` is directive t, counted from 0, and there are m at most
unfoldable pub free_from : ℕ → ℕ → List ℕ → ℕ → ℕ → Bool
free_from zero t words e rest = false
free_from (suc m) t words e rest = (eqb (rest % 2) 1 && eqb (bit_and e (get_or words (first_owner + t) 0)) 0) || free_from m (t + 1) words e (rest / 2)

-- an action is asked for: by an exception in e of a directive that asks for the opposite, or by a directive of its own without one
unfoldable pub asked_by : List ℕ → ℕ → ℕ → ℕ → Bool
asked_by words e turning own = ltb 0 (bit_and e turning) || free_from mask_digits 0 words e own

-- the label by whether accept and deny are asked for, the rules left, the first of these, and the first of these that accepts
unfoldable pub label_by : Bool → Bool → ℕ → ℕ → ℕ → Label
label_by accepted denied rules t u =
    judged accepted denied (cond (eqb rules 0) nothing (found (t + 1) (record { action = cond (eqb t u) accept deny; block = [] })))

-- the directives left that ask for accept, and whether accept and deny are asked for
abbrev pub accepting : List ℕ → Left → ℕ
accepting words s = bit_and s.directives (get_or words accepting_directives 0)

abbrev pub accept_asked : List ℕ → Left → Bool
accept_asked words s = asked_by words s.exceptions (get_or words of_denying 0) (accepting words s)

abbrev pub deny_asked : List ℕ → Left → Bool
deny_asked words s = asked_by words s.exceptions (get_or words of_accepting 0) (bit_xor s.directives (accepting words s))

-- the label that what is left gives
unfoldable pub left_label : List ℕ → Left → Label
left_label words s =
    label_by (accept_asked words s) (deny_asked words s) s.rules (count_trailing_zeros mask_digits s.rules)
    (count_trailing_zeros mask_digits (bit_and s.rules (get_or words accepting_rules 0)))

-- a label as one number: its kind, and eight times its rule
abbrev pub label_number : Label → ℕ
label_number l = kind l + 8 * rule l

-- where the words of a strip of a field begin
abbrev pub spot : ℕ → ℕ → ℕ
spot field strip = mask_kinds * (field * most_strips + strip) + front_words

-- what is left of s at a strip of a field
unfoldable pub left_at : List ℕ → ℕ → ℕ → Left → Left
left_at words field strip s =
    record {
      rules = bit_and s.rules (get_or words (spot field strip) 0);
      directives = bit_and s.directives (get_or words (spot field strip + 1) 0);
      exceptions = bit_and s.exceptions (get_or words (spot field strip + 2) 0);
    }

-- the same, in a chart
abbrev pub step : Chart → ℕ → Left → ℕ → Left
step w field s strip = left_at w.words field strip s

-- what is left of s in a cell, given by its strips from a field on
abbrev pub left_in : Chart → ℕ → Left → List ℕ → Left
left_in w field s [] = s
left_in w field s (strip ∷ cell) = left_in w (field + 1) (step w field s strip) cell

-- the label of the cell
abbrev pub cell_label : Chart → ℕ → Left → List ℕ → Label
cell_label w field s cell = left_label w.words (left_in w field s cell)

-- the numbers of strips below a field, the field's own first
abbrev pub below : Chart → ℕ → List ℕ
below w field = drop field w.counts

-- a and b give every cell below the field the same label
abbrev pub Same : Chart → ℕ → Left → Left → Type 0
Same w field a b = Agree (below w field) (cell_label w field a) (cell_label w field b)

-- the answer says whether P holds
abbrev pub Tells : Bool → Type 0 → Type 0
Tells true P = P
Tells false P = ¬ P

-- nothing is left
pub record Nothing (s : Left) : Type 0 where
  pub no_rule : s.rules ≡ 0
  pub no_directive : s.directives ≡ 0
  pub no_exception : s.exceptions ≡ 0
