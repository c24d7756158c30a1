-- The walk of mask_field: three masks at place after place. Assumes nothing.
use mathlib.Core.Path.{◌≡◌, refl, sym, ap, ◌∙◌}
use mathlib.Core.List.{List, [], ◌∷◌, ◌++◌}
use Prim.Native.Nat.{ℕ, suc, ◌+◌, ◌*◌, ◌≤◌, ◌<◌}
use native.Mathlib.Numerals.{add-one}
use native.Mathlib.Omega.{arith}
use lib.ListN.{length, get_or, take, drop, set, length-append, length-set}
use lib.Seq.{take-suc, take_at, take-take, sets-eq, length-take-le}
use Rattle.meaning.specs.Blocks.{Span}
use Rattle.meaning.specs.Sizes.{most_strips, field_places, mask_kinds, field_masks}
use Rattle.places.specs.Places.{PlacedField}
use Rattle.strips.specs.Charts.{holding, masks_at, masks_in, ChartedField}
use Rattle.strips.proofs.MaskLists.{masks_append}

-- three stores behind the front of an array
pub front_three : (l front : List ℕ) (i a b c : ℕ) → i + 2 < length l → take i l ≡ front
    → take (i + 3) (set (set (set l i a) (i + 1) b) (i + 2) c) ≡ front ++ (a ∷ b ∷ c ∷ [])
front_three l front i a b c within is_front =
    let one : i + 1 ≡ suc i = omega arith in
    let two : i + 2 ≡ suc (suc i) = omega arith in
    let front_long : length (take i l) ≡ i = length-take-le i l (omega arith) in
    let long : length (take i l ++ (a ∷ b ∷ c ∷ [])) ≡ i + 3 = length-append (take i l) (a ∷ b ∷ c ∷ []) ∙ ap (λ (k : ℕ). k + 3) front_long in
    (λ t. take (i + 3) (set (set (set l i a) (one t) b) (two t) c))
    ∙ ap (take (i + 3)) (sets-eq (a ∷ b ∷ c ∷ []) l i (omega arith))
    ∙ take_at (take i l ++ (a ∷ b ∷ c ∷ [])) (drop (i + 3) l) (i + 3) long
    ∙ ap (λ (r : List ℕ). r ++ (a ∷ b ∷ c ∷ [])) is_front

module _ (rs ds es : List Span) (places : List ℕ) where
  -- the masks at the first i places are filled
  pub record Masking (masks : List ℕ) (i : ℕ) : Type 0 where
    pub masked : take (mask_kinds * i) masks ≡ masks_at rs ds es (take i places)
    pub long : length masks ≡ field_masks

  -- no place yet
  pub masking_start : (masks : List ℕ) → length masks ≡ field_masks → Masking masks 0
  unfolding masks_at
  masking_start masks long = record { masked = refl; long = long }

  -- one place more
  pub masking_more : {masks : List ℕ} {i : ℕ} (a b c : ℕ) → i < length places → length places ≤ most_strips
      → a ≡ holding rs (get_or places i 0)
      → b ≡ holding ds (get_or places i 0)
      → c ≡ holding es (get_or places i 0)
      → Masking masks i
      → Masking (set (set (set masks (mask_kinds * i) a) (mask_kinds * i + 1) b) (mask_kinds * i + 2) c) (i + 1)
  unfolding masks_at
  masking_more {masks} {i} a b c below few is_a is_b is_c w =
      let x = get_or places i 0 in
      let more : mask_kinds * (i + 1) ≡ mask_kinds * i + 3 = omega arith in
      let next : take (i + 1) places ≡ take i places ++ (x ∷ []) = rw (add-one i) (take-suc places i 0 below) in
      record {
        masked =
            rw more
            (front_three masks (masks_at rs ds es (take i places)) (mask_kinds * i) a b c (omega (arith, w.long)) w.masked
            ∙ (λ t. masks_at rs ds es (take i places) ++ (is_a t ∷ is_b t ∷ is_c t ∷ []))
            ∙ sym (masks_append rs ds es (take i places) (x ∷ []))
            ∙ ap (masks_at rs ds es) (sym next));
        long = simp length-set w.long;
      }

-- the places found and their masks are the chart
pub field_charted : {numbers masks places : List ℕ} {field n rules directives exceptions count : ℕ}
    → (p : PlacedField numbers field n (rules + directives + exceptions) places count)
    → length places ≡ field_places
    → take (mask_kinds * length (take count places)) masks ≡ masks_in numbers field rules directives exceptions (take count places)
    → ChartedField numbers field n rules directives exceptions masks places count
field_charted {numbers} {masks} {places} {field} {n} {rules} {directives} {exceptions} {count} p long masked =
    let front : take count places ≡ p.all =
    sym (take-take count (count + 1) places (omega arith)) ∙ ap (take count) p.placed ∙ take_at p.all (n ∷ []) count (sym p.counted) in
    let so_many : length (take count places) ≡ count = length-take-le count places (omega (arith, p.few)) in
    record {
      found = p;
      masked = ap (λ (k : ℕ). take (mask_kinds * k) masks) (sym so_many) ∙ masked ∙ ap (masks_in numbers field rules directives exceptions) front;
    }
