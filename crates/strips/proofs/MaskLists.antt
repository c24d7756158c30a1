-- The masks of places, three a place: their number, where those of a place stand, and those of two runs of places. Assumes nothing.
use mathlib.Core.Path.{◌≡◌, refl, sym, ap, ◌∙◌}
use mathlib.Core.List.{List, [], ◌∷◌, ◌++◌}
use Prim.Native.Nat.{ℕ, zero, suc, ◌+◌, ◌*◌, ◌<◌}
use native.Mathlib.Omega.{arith}
use lib.ListN.{length, get_or, drop}
use lib.Seq.{drop-cons, get_or-drop}
use Rattle.meaning.specs.Blocks.{Span}
use Rattle.meaning.specs.Sizes.{mask_kinds}
use Rattle.strips.specs.Charts.{holding, masks_at}

module _ (rs ds es : List Span) where
  -- the masks of two runs of places, one after the other
  pub masks_append : (xs ys : List ℕ) → masks_at rs ds es (xs ++ ys) ≡ masks_at rs ds es xs ++ masks_at rs ds es ys
  unfolding masks_at
  masks_append [] ys = refl
  masks_append (x ∷ xs) ys = ap (λ (r : List ℕ). holding rs x ∷ holding ds x ∷ holding es x ∷ r) (masks_append xs ys)

  -- three masks a place
  pub length_masks : (xs : List ℕ) → length (masks_at rs ds es xs) ≡ mask_kinds * length xs
  unfolding masks_at
  length_masks [] = refl
  length_masks (x ∷ xs) = omega (arith, length_masks xs)

  -- from place i on, the masks of the places from i on
  masks_drop : (i : ℕ) (xs : List ℕ) → drop (mask_kinds * i) (masks_at rs ds es xs) ≡ masks_at rs ds es (drop i xs)
  unfolding masks_at
  masks_drop zero xs = refl
  masks_drop (suc i) [] = let more : mask_kinds * suc i ≡ suc (mask_kinds * i + 2) = omega arith in rw more refl
  masks_drop (suc i) (x ∷ xs) = let more : mask_kinds * suc i ≡ suc (suc (suc (mask_kinds * i))) = omega arith in rw more (masks_drop i xs)

  module _ (xs : List ℕ) (i d : ℕ) (within : i < length xs) where
    -- the masks at place i, the first of which has number maskKinds * i
    masks_at_lem : (k : ℕ) → get_or (masks_at rs ds es xs) (mask_kinds * i + k) 0 ≡ get_or (masks_at rs ds es (get_or xs i d ∷ drop (suc i) xs)) k 0
    masks_at_lem k =
        sym (get_or-drop (mask_kinds * i) (masks_at rs ds es xs) k 0)
        ∙ ap (λ (l : List ℕ). get_or l k 0) (masks_drop i xs ∙ ap (masks_at rs ds es) (drop-cons xs i d within))

    -- the rules at place i
    pub rules_at : get_or (masks_at rs ds es xs) (mask_kinds * i) 0 ≡ holding rs (get_or xs i d)
    unfolding masks_at
    rules_at = let first : mask_kinds * i ≡ mask_kinds * i + 0 = omega arith in ap (λ (k : ℕ). get_or (masks_at rs ds es xs) k 0) first ∙ masks_at_lem 0

    -- the directives at place i
    pub directives_at : get_or (masks_at rs ds es xs) (mask_kinds * i + 1) 0 ≡ holding ds (get_or xs i d)
    unfolding masks_at
    directives_at = masks_at_lem 1

    -- the exceptions at place i
    pub exceptions_at : get_or (masks_at rs ds es xs) (mask_kinds * i + 2) 0 ≡ holding es (get_or xs i d)
    unfolding masks_at
    exceptions_at = masks_at_lem 2
