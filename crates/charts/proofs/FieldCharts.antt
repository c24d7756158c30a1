-- Charts of fields one behind the other: how long they are, and where the chart of each field stands. Assumes nothing.
use mathlib.Core.Path.{◌≡◌, refl, ap, subst, ◌∙◌}
use mathlib.Core.List.{List, ◌∷◌}
use Prim.Native.Nat.{ℕ, zero, suc, ◌+◌, ◌*◌, ◌≤◌, ◌<◌}
use native.Mathlib.Omega.{arith}
use lib.ListN.{length, get_or, length-append}
use Rattle.meaning.specs.Sizes.{most_strips, field_places, field_masks}
use Rattle.strips.specs.Charts.{ChartedField}
use Rattle.charts.specs.Charted.{FieldsCharted, charted_none, charted_more}
use Rattle.charts.proofs.Parts.{PartsFrom, parts_here, parts_later}

-- charts of so many fields: how long the masks, places and counts are, and that no count is above its limit
pub record ChartsLong (count : ℕ) (masks places counts : List ℕ) : Type 0 where
  pub long_masks : length masks ≡ field_masks * count
  pub long_places : length places ≡ field_places * count
  pub long_counts : length counts ≡ count
  pub few : (field : ℕ) → get_or counts field 0 ≤ most_strips

-- one count more, itself within the limit
few_more : (count : ℕ) (counts : List ℕ) → count ≤ most_strips → ((field : ℕ) → get_or counts field 0 ≤ most_strips)
    → (field : ℕ) → get_or (count ∷ counts) field 0 ≤ most_strips
few_more count counts few later zero = few
few_more count counts few later (suc field) = later field

-- the chart of a field: `places` has its places
pub record ChartAt (numbers : List ℕ) (rules directives exceptions field n : ℕ) (places : List ℕ) (count : ℕ) : Type 0 where
  pub its_masks : List ℕ
  pub its_places : List ℕ
  pub its_chart : ChartedField numbers field n rules directives exceptions its_masks its_places count
  pub places_at : (j : ℕ) → j < field_places → get_or places (field_places * field + j) 0 ≡ get_or its_places j 0

module _ {numbers : List ℕ} {rules directives exceptions : ℕ} where
  -- so many masks, so many places and a count a field
  pub charts_long : {first : ℕ} {ns masks places counts : List ℕ}
      → FieldsCharted numbers rules directives exceptions first ns masks places counts
      → ChartsLong (length ns) masks places counts
  charts_long charted_none = record { long_masks = refl; long_places = refl; long_counts = refl; few = λ field. omega arith }
  charts_long (charted_more {count} {ns} {masks} {more_masks} {places} {more_places} {counts} chart long long_places rest) =
      let w = charts_long rest in
      record {
        long_masks = length-append masks more_masks ∙ omega (arith, w.long_masks);
        long_places = length-append places more_places ∙ omega (arith, w.long_places);
        long_counts = ap suc w.long_counts;
        few = few_more count counts chart.found.few w.few;
      }

  -- the chart of the field k fields behind the first
  pub chart_at : (all : List ℕ) {first : ℕ} {ns masks places counts : List ℕ} (k : ℕ)
      → FieldsCharted numbers rules directives exceptions first ns masks places counts
      → PartsFrom field_places all first places
      → k < length ns
      → ChartAt numbers rules directives exceptions (first + k) (get_or ns k 0) all (get_or counts k 0)
  chart_at all k charted_none there h = absurd (omega arith)
  chart_at all {first} zero (charted_more {n} {count} {masks} {places} {more_places} chart long wide rest) there h =
      let here : first ≡ first + 0 = omega arith in
      subst (λ (f : ℕ). ChartAt numbers rules directives exceptions f n all count) here
      (record {
        its_masks = masks;
        its_places = places;
        its_chart = chart;
        places_at = λ j b. parts_here field_places all first places more_places there j (omega arith);
      })
  chart_at all {first} (suc k) (charted_more {ns} {places} {more_places} {counts} chart long wide rest) there h =
      let next : first + 1 + k ≡ first + suc k = omega arith in
      subst (λ (f : ℕ). ChartAt numbers rules directives exceptions f (get_or ns k 0) all (get_or counts k 0)) next
      (chart_at all k rest (parts_later field_places all first places more_places there wide) (omega arith))
