-- The places of a chart: where each strip begins and ends, and the low corner of a cell. Assumes nothing.
use mathlib.Core.Path.{◌≡◌, refl, sym, ap, ◌∙◌}
use mathlib.Core.List.{List, [], ◌∷◌}
use Prim.Native.Nat.{ℕ, zero, suc, ◌+◌, ◌*◌, ◌≤◌, ◌<◌}
use native.Mathlib.Omega.{arith}
use native.Mathlib.Decide.{dec_lt}
use native.Mathlib.Numerals.{add-one}
use lib.ListN.{length, get_or, get_or-append, get_or-eq_default}
use lib.Seq.{get_or-take, get_or_at}
use Rattle.meaning.specs.Fields.{Packet, InRange, range_none, range_more}
use Rattle.meaning.specs.Strips.{place, corner}
use Rattle.meaning.specs.Sizes.{field_places}
use Rattle.meaning.proofs.StripCells.{place_size}
use Rattle.strips.specs.Charts.{ChartedField}
use Rattle.charts.specs.Charted.{FieldsCharted, charted_none, charted_more}
use Rattle.charts.proofs.Cuts.{field_cut, cuts_of}
use Rattle.charts.proofs.Parts.{PartsFrom, parts_here, parts_later}

-- within a list, what stands for what lies past it does not matter
any_default : (xs : List ℕ) (i d e : ℕ) → i < length xs → get_or xs i d ≡ get_or xs i e
any_default [] i d e h = absurd (omega arith)
any_default (x ∷ xs) zero d e h = refl
any_default (x ∷ xs) (suc i) d e h = any_default xs i d e (omega arith)

-- The chart of a field has the places of its cut, and behind them the size.
module _ {numbers : List ℕ} {field n rules directives exceptions : ℕ} {masks places : List ℕ} {count : ℕ}
    (c : ChartedField numbers field n rules directives exceptions masks places count) where
  pub place_charted : (i : ℕ) → i ≤ count → get_or places i 0 ≡ place (field_cut c) i
  place_charted i h =
      sym (get_or-take (count + 1) places i 0 (omega arith))
      ∙ ap (λ (xs : List ℕ). get_or xs i 0) c.found.placed
      ∙ elim (dec_lt i (length c.found.all)) [
        | yes l ↦ get_or-append c.found.all (n ∷ []) 0 i l ∙ any_default c.found.all i 0 n l
        | no l ↦
            get_or_at c.found.all n [] 0 i (omega (arith, c.found.counted)) ∙ sym (get_or-eq_default c.found.all n {n = i} (omega arith))
      ]

  -- a strip begins below the size; it has ended above 0 and not past the size
  pub strip_begins : (i : ℕ) → i < count → get_or places i 0 < n
  strip_begins i h =
      let counted = c.found.counted in
      let size = place_size (field_cut c) (suc i) (omega (arith, counted)) in
      omega (arith, place_charted i (omega arith), (field_cut c).rising i (omega (arith, counted)), size)

  pub strip_ends : (i : ℕ) → i < count → (0 < get_or places (i + 1) 0) × (get_or places (i + 1) 0 ≤ n)
  strip_ends i h =
      let next = ap (λ (j : ℕ). place (field_cut c) j) (add-one i) in
      let at = place_charted (i + 1) (omega arith) in
      let counted = c.found.counted in
      let rises = (field_cut c).rising i (omega (arith, counted)) in
      let size = place_size (field_cut c) (suc i) (omega (arith, counted)) in
      (omega (arith, at, next, rises), omega (arith, at, next, size))

module _ (places : List ℕ) where
  -- the place of a strip in each field from a field on
  abbrev pub corner_in : ℕ → List ℕ → Packet
  corner_in field [] = []
  corner_in field (i ∷ cell) = get_or places (field_places * field + i) 0 ∷ corner_in (field + 1) cell

  module _ {numbers : List ℕ} {rules directives exceptions : ℕ} where
    pub corner_charted : {field : ℕ} {ns masks part counts : List ℕ} (f : FieldsCharted numbers rules directives exceptions field ns masks part counts)
        → PartsFrom field_places places field part
        → {cell : List ℕ}
        → InRange counts cell
        → corner (cuts_of f) cell ≡ corner_in field cell
    unfolding corner
    corner_charted charted_none there range_none = refl
    corner_charted {field} (charted_more {places = xs} {more_places = more} c long wide later) there (range_more {x = i} h r) =
        let here = parts_here field_places places field xs more there i (omega (arith, c.found.few)) ∙ place_charted c i (omega arith) in
        λ t. sym here t ∷ corner_charted later (parts_later field_places places field xs more there wide) r t
