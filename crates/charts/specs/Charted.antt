-- The chart of a rule set and a policy.
use Rattle.std.specs.Prelude.{List, [], ◌∷◌, ◌++◌, ◌≡◌, ℕ, ◌+◌, length}
use Rattle.meaning.specs.Fields.{fields}
use Rattle.meaning.specs.Sizes.{field_places, field_masks, front_words}
use Rattle.sets.specs.declared.Policy.{Policy}
use Rattle.sets.specs.declared.Rules.{Rules}
use Rattle.sets.specs.Inner.{directives_of, exceptions_of}
use Rattle.cells.specs.Words.{WordsOf}
use Rattle.bounds.specs.SetBlocks.{rules_of, all_blocks, BlocksCounted}
use Rattle.bounds.specs.Spans.{InFront}
use Rattle.strips.specs.Charts.{ChartedField}

-- Fields of these sizes are charted from a field on, one after the other.
pub data FieldsCharted (numbers : List ℕ) (rules directives exceptions : ℕ) : ℕ → List ℕ → List ℕ → List ℕ → List ℕ → Type 0 where
  charted_none : {field : ℕ} → FieldsCharted numbers rules directives exceptions field [] [] [] []
  charted_more : {field n count : ℕ} {ns masks more_masks places more_places counts : List ℕ}
      → ChartedField numbers field n rules directives exceptions masks places count
      → length masks ≡ field_masks
      → length places ≡ field_places
      → FieldsCharted numbers rules directives exceptions (field + 1) ns more_masks more_places counts
      → FieldsCharted numbers rules directives exceptions field (n ∷ ns) (masks ++ more_masks) (places ++ more_places) (count ∷ counts)

-- the words, counts of strips and places of the sets
pub record Charted (r : Rules) (p : Policy) (words counts places : List ℕ) : Type 0 where
  pub counted : BlocksCounted r p
  pub numbers : List ℕ
  -- the bounds of all blocks, side by side
  pub numbered : InFront (all_blocks r p) numbers
  pub front : List ℕ
  pub front_long : length front ≡ front_words
  pub masks : List ℕ
  pub words_are : words ≡ front ++ masks
  pub words_of_front : WordsOf (rules_of r) (directives_of p) (exceptions_of p) front
  pub each_field : FieldsCharted numbers r.count p.directive_count p.exception_count 0 fields masks places counts
