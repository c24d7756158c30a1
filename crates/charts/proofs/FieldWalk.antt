-- The walk that fills the charts of the fields, one behind the other. Assumes nothing.
use mathlib.Core.Path.{◌≡◌, sym, ap, subst, ◌∙◌}
use mathlib.Core.List.{List, [], ◌∷◌, ◌++◌, append_assoc, append-nil}
use Prim.Native.Nat.{ℕ, ◌+◌, ◌*◌, ◌-◌, ◌≤◌, ◌<◌}
use native.Mathlib.Numerals.{add-one}
use native.Mathlib.Omega.{arith}
use borrow.Rule.Slice.PartMut.{mid_len}
use lib.ListN.{length, get_or, take, drop, set, length-append, length-set, length-drop, drop_of_length-le}
use lib.Seq.{drop-cons, take-suc-set, take_at, take_all, length-take-le}
use Rattle.meaning.specs.Sizes.{field_places, field_masks}
use Rattle.strips.specs.Charts.{ChartedField}
use Rattle.charts.specs.Charted.{FieldsCharted, charted_none, charted_more}

-- a part of k numbers behind the first a has k
part_long : (l : List ℕ) (a k : ℕ) → a + k ≤ length l → length (take (a + k - a) (drop a l)) ≡ k
part_long l a k within = mid_len a (a + k) l within ∙ omega arith

-- a part of k numbers put back behind the first a: the front grows by it
front_grows : (l part rest : List ℕ) (a k b : ℕ) → a ≤ length l → length part ≡ k → b ≡ a + k
    → take b (take a l ++ (part ++ rest)) ≡ take a l ++ part
front_grows l part rest a k b within long is_b =
    let both : length (take a l ++ part) ≡ b =
    length-append (take a l) part ∙ (λ t. length-take-le a l within t + long t) ∙ sym is_b in
    ap (take b) (sym (append_assoc (take a l) part rest)) ∙ take_at (take a l ++ part) rest b both

-- all behind the first a put back, k numbers: nothing is left behind it
pub all_behind : (l part : List ℕ) (a k : ℕ) → length l ≤ a + k → take a l ++ (part ++ drop k (drop a l)) ≡ take a l ++ part
all_behind l part a k all =
    let none : drop k (drop a l) ≡ [] = drop_of_length-le (drop a l) {i = k} (omega (arith, length-drop a l, all)) in
    ap (λ (rest : List ℕ). take a l ++ (part ++ rest)) none ∙ ap (λ (x : List ℕ). take a l ++ x) (append-nil part)

-- what stands behind a part, behind the front that grew by it
behind : (l part more front : List ℕ) → front ≡ l ++ part → l ++ (part ++ more) ≡ front ++ more
behind l part more front grown = sym (append_assoc l part more) ∙ ap (λ (x : List ℕ). x ++ more) (sym grown)

-- Fields of the sizes ns, whose blocks have these numbers.
module _ (numbers : List ℕ) (rules directives exceptions : ℕ) (ns : List ℕ) where
  -- charts by other names
  same_charts : {field : ℕ} {sizes masks other_masks places other_places counts other_counts : List ℕ}
      → masks ≡ other_masks
      → places ≡ other_places
      → counts ≡ other_counts
      → FieldsCharted numbers rules directives exceptions field sizes masks places counts
      → FieldsCharted numbers rules directives exceptions field sizes other_masks other_places other_counts
  same_charts {field} {sizes} {other_masks} {places} {other_places} {counts} {other_counts} same_masks same_places same_counts w =
      subst (λ (cs : List ℕ). FieldsCharted numbers rules directives exceptions field sizes other_masks other_places cs) same_counts
      (subst (λ (ps : List ℕ). FieldsCharted numbers rules directives exceptions field sizes other_masks ps counts) same_places
      (subst (λ (ms : List ℕ). FieldsCharted numbers rules directives exceptions field sizes ms places counts) same_masks w))

  -- the fields below `field` are charted: with charts of the others behind theirs, all fields are
  pub record ChartedUpTo (field : ℕ) (masks counts places : List ℕ) : Type 0 where
    pub so_far : (more_masks more_places more_counts : List ℕ)
        → FieldsCharted numbers rules directives exceptions field (drop field ns) more_masks more_places more_counts
        → FieldsCharted numbers rules directives exceptions 0 ns (take (field_masks * field) masks ++ more_masks)
        (take (field_places * field) places ++ more_places) (take field counts ++ more_counts)
    pub long_masks : length masks ≡ field_masks * length ns
    pub long_counts : length counts ≡ length ns
    pub long_places : length places ≡ field_places * length ns

  -- no field yet
  pub fields_start : (masks counts places : List ℕ)
      → length masks ≡ field_masks * length ns
      → length counts ≡ length ns
      → length places ≡ field_places * length ns
      → ChartedUpTo 0 masks counts places
  fields_start masks counts places long_masks long_counts long_places =
      record { so_far = λ ms ps cs w. w; long_masks = long_masks; long_counts = long_counts; long_places = long_places }

  -- the part of the masks for the next field
  pub masks_part : {field : ℕ} {masks counts places : List ℕ} → field < length ns → ChartedUpTo field masks counts places
      → length (take (field_masks * field + field_masks - field_masks * field) (drop (field_masks * field) masks)) ≡ field_masks
  masks_part {field} {masks} h w = part_long masks (field_masks * field) field_masks (omega (arith, w.long_masks))

  -- the part of the places for the next field
  pub places_part : {field : ℕ} {masks counts places : List ℕ} → field < length ns → ChartedUpTo field masks counts places
      → length (take (field_places * field + field_places - field_places * field) (drop (field_places * field) places)) ≡ field_places
  places_part {field} {places} h w = part_long places (field_places * field) field_places (omega (arith, w.long_places))

  -- one field more
  pub fields_more : {field : ℕ} {masks counts places : List ℕ} (its_masks masks_behind its_places places_behind : List ℕ) (count size : ℕ)
      → field < length ns
      → size ≡ get_or ns field 0
      → ChartedField numbers field size rules directives exceptions its_masks its_places count
      → length its_masks ≡ field_masks
      → length its_places ≡ field_places
      → length (take (field_masks * field) masks ++ (its_masks ++ masks_behind)) ≡ length masks
      → length (take (field_places * field) places ++ (its_places ++ places_behind)) ≡ length places
      → ChartedUpTo field masks counts places
      → ChartedUpTo (field + 1) (take (field_masks * field) masks ++ (its_masks ++ masks_behind)) (set counts field count)
      (take (field_places * field) places ++ (its_places ++ places_behind))
  fields_more {field} {masks} {counts} {places} its_masks masks_rest its_places places_rest count size h is_size charted long long_places same same_places w =
      let all_masks_lem = take (field_masks * field) masks ++ (its_masks ++ masks_rest) in
      let all_places_lem = take (field_places * field) places ++ (its_places ++ places_rest) in
      let grown_masks : take (field_masks * (field + 1)) all_masks_lem ≡ take (field_masks * field) masks ++ its_masks =
      front_grows masks its_masks masks_rest (field_masks * field) field_masks (field_masks * (field + 1)) (omega (arith, w.long_masks)) long (omega arith) in
      let grown_places : take (field_places * (field + 1)) all_places_lem ≡ take (field_places * field) places ++ its_places =
      front_grows places its_places places_rest (field_places * field) field_places (field_places * (field + 1)) (omega (arith, w.long_places)) long_places
      (omega arith) in
      let grown_counts : take (field + 1) (set counts field count) ≡ take field counts ++ (count ∷ []) =
      rw (add-one field) (take-suc-set counts field count (omega (arith, w.long_counts))) in
      let first : drop field ns ≡ get_or ns field 0 ∷ drop (field + 1) ns = rw (add-one field) (drop-cons ns field 0 h) in
      record {
        so_far = λ ms ps cs later.
            same_charts
            (behind (take (field_masks * field) masks) its_masks ms (take (field_masks * (field + 1)) all_masks_lem) grown_masks)
            (behind (take (field_places * field) places) its_places ps (take (field_places * (field + 1)) all_places_lem) grown_places)
            (behind (take field counts) (count ∷ []) cs (take (field + 1) (set counts field count)) grown_counts)
            (w.so_far (its_masks ++ ms) (its_places ++ ps) (count ∷ cs) (rw first (charted_more (rw is_size at charted) long long_places later)));
        long_masks = same ∙ w.long_masks;
        long_counts = length-set counts field count ∙ w.long_counts;
        long_places = same_places ∙ w.long_places;
      }

  -- all fields
  pub fields_end : {field : ℕ} {masks counts places : List ℕ} → length ns ≤ field → ChartedUpTo field masks counts places
      → FieldsCharted numbers rules directives exceptions 0 ns masks places counts
  fields_end {field} {masks} {counts} {places} past w =
      same_charts
      (append-nil (take (field_masks * field) masks) ∙ take_all (field_masks * field) masks (omega (arith, w.long_masks)))
      (append-nil (take (field_places * field) places) ∙ take_all (field_places * field) places (omega (arith, w.long_places)))
      (append-nil (take field counts) ∙ take_all field counts (omega (arith, w.long_counts)))
      (w.so_far [] [] [] (rw (drop_of_length-le ns {i = field} past) charted_none))
