-- What is made of the records of an array within a count: how many there are, one more of them, and what holds of all. Assumes nothing.
use mathlib.Core.Path.{◌≡◌, refl, ap, ◌∙◌}
use mathlib.Core.List.{List, [], ◌∷◌, ◌++◌, map}
use Prim.Native.Nat.{ℕ, zero, suc, ◌+◌, ◌≤◌, ◌<◌}
use native.Mathlib.Numerals.{add-one}
use native.Mathlib.Omega.{arith}
use lib.ListN.{length, get_or, take, length-map, get_or-map}
use lib.Seq.{get_or-take, take-suc, length-take-le}
use Rattle.meaning.specs.Records.{Every, every_none, every_more}

-- what g makes of the records within the count, where a record stands for its f
abbrev pub made : {A B C : Type 0} → (A → B) → (B → C) → List A → ℕ → List C
made f g records count = map g (take count (map f records))

-- as many records within the count as the count says
pub length_within : {A B : Type 0} (f : A → B) (records : List A) (count : ℕ) → count ≤ length records → length (take count (map f records)) ≡ count
length_within f records count enough = length-take-le count (map f records) (omega (arith, length-map records f))

module _ {A B C : Type 0} (f : A → B) (g : B → C) where
  -- what holds of all that can be made
  pub every_made : {P : C → Type 0} → ((a : A) → P (g (f a))) → (records : List A) (count : ℕ) → Every P (made f g records count)
  every_made holds records zero = every_none
  every_made holds [] (suc count) = every_none
  every_made holds (a ∷ records) (suc count) = every_more (holds a) (every_made holds records count)

  module _ (records : List A) (count : ℕ) (enough : count ≤ length records) where
    -- one for each of them
    pub length_made : length (made f g records count) ≡ count
    length_made = length-map (take count (map f records)) g ∙ length_within f records count enough

    -- up to an index and one more: what is made of the record there comes behind
    pub made_next : (i : ℕ) (d : A) → i < count
        → take (i + 1) (made f g records count) ≡ take i (made f g records count) ++ (g (f (get_or records i d)) ∷ [])
    made_next i d h =
        let last =
        get_or-map g (take count (map f records)) i (f d)
        ∙ ap g (get_or-take count (map f records) i (f d) h ∙ get_or-map f records i d) in
        rw (add-one i)
        (take-suc (made f g records count) i (g (f d)) (omega (arith, length_made))
        ∙ ap (λ (c : C). take i (made f g records count) ++ (c ∷ [])) last)

-- the same of the records within the count themselves
pub made_within : {A B C : Type 0} (f : A → B) (g : B → C) (records : List A) (count : ℕ)
    → made f g records count ≡ map (λ (a : A). g (f a)) (take count records)
made_within f g records zero = refl
made_within f g [] (suc count) = refl
made_within {C} f g (a ∷ records) (suc count) = ap (λ (cs : List C). g (f a) ∷ cs) (made_within f g records count)

-- what holds of whatever f makes holds of what it makes of all records
pub every_mapped : {A C : Type 0} (f : A → C) {P : C → Type 0} → ((a : A) → P (f a)) → (records : List A) → Every P (map f records)
every_mapped f holds [] = every_none
every_mapped f holds (a ∷ records) = every_more (holds a) (every_mapped f holds records)
