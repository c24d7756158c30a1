-- The chart of a field: its places, and at each place the rules, directives and exceptions whose span holds it.
use Rattle.std.specs.Prelude.{◌≡◌, List, [], ◌∷◌, ℕ, ◌+◌, ◌*◌, take}
use Rattle.meaning.specs.Blocks.{Span, within}
use Rattle.meaning.specs.Sizes.{mask_kinds}
use Rattle.layout.specs.Masks.{mask}
use Rattle.bounds.specs.Spans.{spans_in}
use Rattle.places.specs.Places.{PlacedField}

-- the spans that hold x
abbrev pub holding : List Span → ℕ → ℕ
holding ss x = mask (λ (s : Span). within s x) ss

-- at each place the masks of rules, directives and exceptions, side by side
unfoldable pub masks_at : List Span → List Span → List Span → List ℕ → List ℕ
masks_at rs ds es [] = []
masks_at rs ds es (x ∷ xs) = holding rs x ∷ holding ds x ∷ holding es x ∷ masks_at rs ds es xs

-- the same, with the spans of `rules` rules, `directives` directives and `exceptions` exceptions one after the other in an array
abbrev pub masks_in : List ℕ → ℕ → ℕ → ℕ → ℕ → List ℕ → List ℕ
masks_in numbers field rules directives exceptions xs =
    masks_at (spans_in numbers field 0 rules) (spans_in numbers field rules directives) (spans_in numbers field (rules + directives) exceptions) xs

-- Of a field of size n with these spans: the places, and in front of an array their masks.
pub record ChartedField (numbers : List ℕ) (field n rules directives exceptions : ℕ) (masks places : List ℕ) (count : ℕ) : Type 0 where
  pub found : PlacedField numbers field n (rules + directives + exceptions) places count
  pub masked : take (mask_kinds * count) masks ≡ masks_in numbers field rules directives exceptions found.all
