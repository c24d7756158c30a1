-- Places of charts as the walks use them: of the strips of a cell, and of a block of strips. Assumes nothing.
use mathlib.Core.Path.{◌≡◌, refl, ap, ◌∙◌, subst}
use mathlib.Core.List.{List, [], ◌∷◌}
use Prim.Native.Nat.{ℕ, zero, suc, ◌+◌, ◌*◌, ◌-◌, ◌^◌, ◌≤◌, ◌<◌}
use native.Mathlib.Decide.{dec_lt}
use native.Mathlib.Numerals.{add-one}
use native.Mathlib.Omega.{arith}
use lib.Dec.{T, leb, leb→le}
use lib.ListN.{length, get_or, get_or-eq_default}
use Rattle.meaning.specs.Blocks.{Block}
use Rattle.meaning.specs.Fields.{InRange, range_none, range_more, fields}
use Rattle.meaning.specs.Form.{block_in_form}
use Rattle.meaning.specs.Records.{all_of}
use Rattle.meaning.specs.Strips.{place, stretch}
use Rattle.meaning.specs.Sizes.{field_count, field_places}
use Rattle.meaning.proofs.FormLaws.{block_in_form_iff}
use Rattle.meaning.proofs.Tests.{left, right}
use Rattle.lister.specs.Rows.{stretched}
use Rattle.lister.specs.Runs.{Placed}
use Rattle.charts.specs.Charted.{FieldsCharted, charted_none, charted_more}
use Rattle.charts.proofs.Corners.{place_charted, strip_begins, strip_ends}
use Rattle.charts.proofs.Cuts.{field_cut, cuts_of}
use Rattle.charts.proofs.FieldCharts.{charts_long, ChartAt, chart_at}
use Rattle.charts.proofs.Parts.{PartsFrom, parts_all, parts_here, parts_later}
use Rattle.findings.specs.Inner.{CornerPlaced}

-- no field has more numbers than 32 bits can tell
sizes_small : (ns : List ℕ) → T (all_of (λ (n : ℕ). leb n (2 ^ 32)) ns) → (k : ℕ) → get_or ns k 0 ≤ 2 ^ 32
unfolding all_of
sizes_small [] t k = omega arith
sizes_small (n ∷ ns) t zero = leb→le n (2 ^ 32) (left (leb n (2 ^ 32)) (all_of (λ (m : ℕ). leb m (2 ^ 32)) ns) t)
sizes_small (n ∷ ns) t (suc k) = sizes_small ns (right (leb n (2 ^ 32)) (all_of (λ (m : ℕ). leb m (2 ^ 32)) ns) t) k

size_small : (k : ℕ) → get_or fields k 0 ≤ 2 ^ 32
unfolding all_of
size_small k = sizes_small fields tt k

module _ {numbers : List ℕ} {rules directives exceptions : ℕ} where
  module _ {masks places counts : List ℕ} (f : FieldsCharted numbers rules directives exceptions 0 fields masks places counts) where
    -- where a strip begins and ends
    abbrev At : ℕ → ℕ → Type 0
    At field strip =
        (get_or places (field_places * field + strip) 0 < 2 ^ 32)
        × (0 < get_or places (field_places * field + (strip + 1)) 0)
        × (get_or places (field_places * field + (strip + 1)) 0 ≤ 2 ^ 32)

    strip_at : (field strip : ℕ) → strip < get_or counts field 0 → At field strip
    strip_at field strip h =
        elim (dec_lt field field_count) [
          | yes l ↦
              let its : 0 + field ≡ field = omega arith in
              let found = chart_at places field f (parts_all field_places places) l in
              let c = subst (λ (k : ℕ). ChartAt numbers rules directives exceptions k (get_or fields field 0) places (get_or counts field 0)) its found in
              let few = (charts_long f).few field in
              let ends = strip_ends c.its_chart strip h in (
                omega (arith, c.places_at strip (omega arith), strip_begins c.its_chart strip h, size_small field),
                omega (arith, c.places_at (strip + 1) (omega arith), ends.0),
                omega (arith, c.places_at (strip + 1) (omega arith), ends.1, size_small field),
              )
          | no l ↦ absurd (omega (arith, get_or-eq_default counts 0 {n = field} (omega (arith, (charts_long f).long_counts))))
        ]

    pub charts_placed : Placed counts places
    charts_placed =
        record {
          long = (charts_long f).long_places;
          begins = λ field strip h. (strip_at field strip h).0;
          ends_above = λ field strip h. (strip_at field strip h).1;
          ends = λ field strip h. (strip_at field strip h).2;
        }

    -- a cell
    pub corner_placed : {strips : List ℕ} → InRange counts strips → CornerPlaced places strips
    corner_placed {strips} i =
        record {
          strip = λ field h. omega (arith, here field h, (charts_long f).few field);
          place = λ field h. (strip_at field (get_or strips field 0) (here field h)).0;
        }
      where
        within : {ns p : List ℕ} → InRange ns p → (k : ℕ) → k < length ns → get_or p k 0 < get_or ns k 0
        within range_none k h = absurd (omega arith)
        within (range_more l r) zero h = l
        within (range_more l r) (suc k) h = within r k (omega arith)

        here : (field : ℕ) → field < field_count → get_or strips field 0 < get_or counts field 0
        here field h = within i field (omega (arith, (charts_long f).long_counts))

module _ (places : List ℕ) {numbers : List ℕ} {rules directives exceptions : ℕ} where
  -- a block of strips, stretched by its cuts and by the places
  pub stretch_charted : {field : ℕ} {ns masks part counts : List ℕ} (f : FieldsCharted numbers rules directives exceptions field ns masks part counts)
      → PartsFrom field_places places field part
      → (b : Block)
      → T (block_in_form counts b)
      → stretched places field b ≡ stretch (cuts_of f) b
  unfolding block_in_form stretch
  stretch_charted charted_none there [] t = refl
  stretch_charted charted_none there (s ∷ b) t = absurd t
  stretch_charted (charted_more c long wide later) there [] t = absurd t
  stretch_charted {field} (charted_more {count} {places = xs} {more_places = more} {counts} c long wide later) there (s ∷ b) t =
      let w = (block_in_form_iff count counts s b).0 t in
      let at : (i : ℕ) → i ≤ count → get_or places (field_places * field + i) 0 ≡ place (field_cut c) i =
      λ i h. parts_here field_places places field xs more there i (omega (arith, c.found.few)) ∙ place_charted c i h in
      let low = at s.low (omega (arith, w.0, w.1)) in
      let high = at (s.high + 1) (omega (arith, w.1)) ∙ ap (place (field_cut c)) (add-one s.high) in
      λ i. record { low = low i; high = high i - 1 } ∷ stretch_charted later (parts_later field_places places field xs more there wide) b w.2 i
