-- Laws of the parts between separators, for every separator. Assumes nothing.
use mathlib.Core.Bool.{Bool, true, false, cond, not}
use mathlib.Core.List.{List, [], ◌∷◌}
use mathlib.Core.Path.{◌≡◌, refl, ap, sym, ◌∙◌}
use native.Mathlib.Nat.{le_of_suc-le-suc, not-suc-le-zero}
use native.Mathlib.Numerals.{add-one}
use native.Mathlib.Omega.{arith}
use Prim.Native.Nat.{ℕ, zero, suc, ◌+◌, ◌-◌, ◌≤◌, ◌<◌, min}
use borrow.Author.Tests.{eq-eqb, ne_eqb}
use denote.Ref.{Bor}
use lib.Dec.{eqb, ltb}
use lib.ListN.{length, take, drop, get_or, length-drop, length-take, drop_of_length-le}
use lib.Seq.{drop-cons, drop-drop}
use Rattle.std.specs.Prelude.{Some, None, unwrap_or}
use Rattle.std.specs.List.{position, position_or_len, count_by}
use Rattle.std.proofs.lemmas.Bool.{ltb-false}
use Rattle.std.proofs.lemmas.List.Sums.{sum_by-cons, prefix_len-le-length}
use Rattle.contracts.specs.Answers.{Seen, seen}
use Rattle.parts.specs.Parts.{onto, parts, part, Piece, pieces_from, piece, shown}

-- every text has a part
pub some_part : (sep : ℕ) (xs : List ℕ) → 0 < length (parts sep xs)
some_part sep [] = omega arith
some_part sep (x ∷ xs) = go (eqb x sep) (parts sep xs)
  where
    go : (b : Bool) (ps : List (List ℕ)) → 0 < length (cond b ([] ∷ ps) (onto x ps))
    go true ps = omega arith
    go false [] = omega arith
    go false (p ∷ ps) = omega arith

-- the first part is the text's front
pub first_is : (sep : ℕ) (xs : List ℕ) → part sep xs 0 ≡ take (length (part sep xs 0)) xs
first_is sep [] = refl
first_is sep (x ∷ xs) = go (eqb x sep) (parts sep xs) (some_part sep xs) (first_is sep xs)
  where
    go : (b : Bool) (ps : List (List ℕ)) → 0 < length ps → get_or ps 0 [] ≡ take (length (get_or ps 0 [])) xs
        → get_or (cond b ([] ∷ parts sep xs) (onto x ps)) 0 [] ≡ take (length (get_or (cond b ([] ∷ parts sep xs) (onto x ps)) 0 [])) (x ∷ xs)
    go true ps h e = refl
    go false [] h e = absurd (not-suc-le-zero h)
    go false (p ∷ ps) h e = ap (λ (r : List ℕ). x ∷ r) e

-- a separator stands after the first part: the parts go on behind it
cut : (sep : ℕ) (xs : List ℕ) → length (part sep xs 0) < length xs
    → parts sep xs ≡ take (length (part sep xs 0)) xs ∷ parts sep (drop (suc (length (part sep xs 0))) xs)
cut sep [] h = absurd (not-suc-le-zero h)
cut sep (x ∷ xs) h = go (eqb x sep) (parts sep xs) (some_part sep xs) (cut sep xs) h
  where
    go : (b : Bool) (ps : List (List ℕ)) → 0 < length ps
        → (length (get_or ps 0 []) < length xs → ps ≡ take (length (get_or ps 0 [])) xs ∷ parts sep (drop (suc (length (get_or ps 0 []))) xs))
        → length (get_or (cond b ([] ∷ parts sep xs) (onto x ps)) 0 []) < length (x ∷ xs)
        → cond b ([] ∷ parts sep xs) (onto x ps)
        ≡ take (length (get_or (cond b ([] ∷ parts sep xs) (onto x ps)) 0 [])) (x ∷ xs)
        ∷ parts sep (drop (suc (length (get_or (cond b ([] ∷ parts sep xs) (onto x ps)) 0 []))) (x ∷ xs))
    go true ps s ih h = refl
    go false [] s ih h = absurd (not-suc-le-zero s)
    go false (p ∷ ps) s ih h = ap (onto x) (ih (le_of_suc-le-suc h))

-- none stands after it: there is one part
whole : (sep : ℕ) (xs : List ℕ) → length xs ≤ length (part sep xs 0) → parts sep xs ≡ xs ∷ []
whole sep [] h = refl
whole sep (x ∷ xs) h = go (eqb x sep) (parts sep xs) (some_part sep xs) (whole sep xs) h
  where
    go : (b : Bool) (ps : List (List ℕ)) → 0 < length ps → (length xs ≤ length (get_or ps 0 []) → ps ≡ xs ∷ [])
        → length (x ∷ xs) ≤ length (get_or (cond b ([] ∷ parts sep xs) (onto x ps)) 0 [])
        → cond b ([] ∷ parts sep xs) (onto x ps) ≡ (x ∷ xs) ∷ []
    go true ps s ih h = absurd (not-suc-le-zero h)
    go false [] s ih h = absurd (not-suc-le-zero s)
    go false (p ∷ ps) s ih h = ap (onto x) (ih (le_of_suc-le-suc h))

-- one byte more leaves as many parts, and makes the first one byte longer
onto_count : (x : ℕ) (ps : List (List ℕ)) → 0 < length ps → length (onto x ps) ≡ length ps
onto_count x [] h = absurd (not-suc-le-zero h)
onto_count x (p ∷ ps) h = refl

onto_first : (x : ℕ) (ps : List (List ℕ)) → 0 < length ps → length (get_or (onto x ps) 0 []) ≡ suc (length (get_or ps 0 []))
onto_first x [] h = absurd (not-suc-le-zero h)
onto_first x (p ∷ ps) h = refl

-- byte by byte: at place i of the text stands a separator, another byte, or nothing
module _ (sep : ℕ) (l : List ℕ) (i : ℕ) where
  abbrev with : List (List ℕ) → Bool → List (List ℕ)
  with ps b = cond b ([] ∷ ps) (onto (get_or l i 0) ps)

  pub at_separator : i < length l → get_or l i 0 ≡ sep → parts sep (drop i l) ≡ [] ∷ parts sep (drop (i + 1) l)
  at_separator h e =
      ap (parts sep) (drop-cons l i 0 h) ∙ ap (with (parts sep (drop (suc i) l))) (eq-eqb (get_or l i 0) sep e)
      ∙ ap (λ (j : ℕ). [] ∷ parts sep (drop j l)) (sym (add-one i))

  at_other : i < length l → (get_or l i 0 ≡ sep → ⊥) → parts sep (drop i l) ≡ onto (get_or l i 0) (parts sep (drop (i + 1) l))
  at_other h e =
      ap (parts sep) (drop-cons l i 0 h) ∙ ap (with (parts sep (drop (suc i) l))) (ne_eqb (get_or l i 0) sep e)
      ∙ ap (λ (j : ℕ). onto (get_or l i 0) (parts sep (drop j l))) (sym (add-one i))

  pub at_end : length l ≤ i → parts sep (drop i l) ≡ [] ∷ []
  at_end h = ap (parts sep) (drop_of_length-le l h)

  pub other_first : i < length l → (get_or l i 0 ≡ sep → ⊥) → length (part sep (drop i l) 0) ≡ suc (length (part sep (drop (i + 1) l) 0))
  other_first h e =
      ap (λ (ps : List (List ℕ)). length (get_or ps 0 [])) (at_other h e)
      ∙ onto_first (get_or l i 0) (parts sep (drop (i + 1) l)) (some_part sep (drop (i + 1) l))

  pub other_count : i < length l → (get_or l i 0 ≡ sep → ⊥) → length (parts sep (drop i l)) ≡ length (parts sep (drop (i + 1) l))
  other_count h e = ap length (at_other h e) ∙ onto_count (get_or l i 0) (parts sep (drop (i + 1) l)) (some_part sep (drop (i + 1) l))

-- part by part: the part that starts at a ends at e
module _ (sep : ℕ) (l : List ℕ) (a e : ℕ) (ends : e ≡ a + length (part sep (drop a l) 0)) where
  pub part_here : part sep (drop a l) 0 ≡ take (e - a) (drop a l)
  part_here =
      let q : length (part sep (drop a l) 0) ≡ e - a = omega arith in
      first_is sep (drop a l) ∙ ap (λ (n : ℕ). take n (drop a l)) q

  pub parts_next : a ≤ length l → e < length l → parts sep (drop a l) ≡ take (e - a) (drop a l) ∷ parts sep (drop (e + 1) l)
  parts_next fits h =
      let q : length (part sep (drop a l) 0) ≡ e - a = omega arith in
      let r : a + suc (length (part sep (drop a l) 0)) ≡ e + 1 = omega arith in
      cut sep (drop a l) (omega (arith, length-drop a l))
      ∙ ap (λ (n : ℕ). take n (drop a l) ∷ parts sep (drop (suc (length (part sep (drop a l) 0))) (drop a l))) q
      ∙ ap (λ (m : List ℕ). take (e - a) (drop a l) ∷ parts sep m) (drop-drop (suc (length (part sep (drop a l) 0))) a l ∙ ap (λ (n : ℕ). drop n l) r)

  pub parts_last : length l ≤ e → parts sep (drop a l) ≡ drop a l ∷ []
  parts_last h = whole sep (drop a l) (omega (arith, length-drop a l))

  here_length : a ≤ length l → length (take (e - a) (drop a l)) ≡ e - a
  here_length fits = ap length (sym part_here) ∙ omega arith

  -- the parts from a on, with their places
  pub pieces_next : a ≤ length l → e < length l
      → pieces_from a (parts sep (drop a l)) ≡ record { place = a; bytes = take (e - a) (drop a l) } ∷ pieces_from (e + 1) (parts sep (drop (e + 1) l))
  pieces_next fits h =
      let t = take (e - a) (drop a l) in
      let q : (a + length (take (e - a) (drop a l))) + 1 ≡ e + 1 = omega (arith, here_length fits) in
      ap (pieces_from a) (parts_next fits h) ∙ ap (λ (m : ℕ). record { place = a; bytes = t } ∷ pieces_from m (parts sep (drop (e + 1) l))) q

  pub pieces_last : a ≤ length l → length l ≤ e → pieces_from a (parts sep (drop a l)) ≡ record { place = a; bytes = drop a l } ∷ []
  pieces_last fits h = ap (pieces_from a) (parts_last h)

  -- the part that starts at a is the first of them
  pub piece_here : a ≤ length l → (z : Piece) → get_or (pieces_from a (parts sep (drop a l))) 0 z ≡ record { place = a; bytes = take (e - a) (drop a l) }
  piece_here fits z = go (parts sep (drop a l)) (some_part sep (drop a l)) ∙ ap (λ (x : List ℕ). record { place = a; bytes = x }) part_here
    where
      go : (ps : List (List ℕ)) → 0 < length ps → get_or (pieces_from a ps) 0 z ≡ record { place = a; bytes = get_or ps 0 [] }
      go [] h = absurd (not-suc-le-zero h)
      go (p ∷ ps) h = refl

  -- the part ends within the text
  pub part_fits : a ≤ length l → e ≤ length l
  part_fits fits =
      let n = length (part sep (drop a l) 0) in
      let m : length (part sep (drop a l) 0) ≡ min n (length (drop a l)) = ap length (first_is sep (drop a l)) ∙ length-take n (drop a l) in
      omega (arith, m, length-drop a l)

-- no more parts than bytes, and one
pub parts_few : (sep : ℕ) (xs : List ℕ) → length (parts sep xs) ≤ suc (length xs)
parts_few sep [] = omega arith
parts_few sep (x ∷ xs) = go (eqb x sep) (parts sep xs) (parts_few sep xs)
  where
    go : (b : Bool) (ps : List (List ℕ)) → length ps ≤ suc (length xs) → length (cond b ([] ∷ ps) (onto x ps)) ≤ suc (suc (length xs))
    go true ps h = omega arith
    go false [] h = omega arith
    go false (p ∷ ps) h = omega arith

-- the bytes of a piece are the part of that number
pub piece_bytes : (sep : ℕ) (xs : List ℕ) (n : ℕ) → (piece sep xs n).bytes ≡ part sep xs n
piece_bytes sep xs n = go 0 n (parts sep xs)
  where
    go : (a k : ℕ) (ps : List (List ℕ)) → (get_or (pieces_from a ps) k (record { place = length xs; bytes = [] })).bytes ≡ get_or ps k []
    go a k [] = refl
    go a zero (p ∷ ps) = refl
    go a (suc k) (p ∷ ps) = go ((a + length p) + 1) k ps

-- a slice that is shown as a piece has the piece's bytes; as part n, those of part n
pub shown_bytes : (s r : Bor (List ℕ)) (p : Piece) → seen r ≡ shown s p → r.now ≡ p.bytes
shown_bytes s r p e = ap (λ (x : Seen). x.1) e

pub part_bytes : (sep n : ℕ) (s r : Bor (List ℕ)) → seen r ≡ shown s (piece sep s.now n) → r.now ≡ part sep s.now n
part_bytes sep n s r e = shown_bytes s r (piece sep s.now n) e ∙ piece_bytes sep s.now n

-- the first part ends at the first separator, or with the text
first_length : (sep : ℕ) (xs : List ℕ) → position_or_len (λ x. eqb x sep) xs ≡ length (part sep xs 0)
first_length sep [] = refl
first_length sep (x ∷ xs) = go (eqb x sep) (parts sep xs) (some_part sep xs) (first_length sep xs)
  where
    go : (b : Bool) (ps : List (List ℕ)) → 0 < length ps → position_or_len (λ y. eqb y sep) xs ≡ length (get_or ps 0 [])
        → cond (not b) (1 + position_or_len (λ y. eqb y sep) xs) 0 ≡ length (get_or (cond b ([] ∷ parts sep xs) (onto x ps)) 0 [])
    go true ps h e = refl
    go false [] h e = absurd (not-suc-le-zero h)
    go false (p ∷ ps) h e = omega (arith, e)

pub first_ends : (sep : ℕ) (xs : List ℕ) → unwrap_or (position (λ x. eqb x sep) xs) (length xs) ≡ length (part sep xs 0)
first_ends sep xs = go (position_or_len (λ x. eqb x sep) xs) (ltb (position_or_len (λ x. eqb x sep) xs) (length xs)) (prefix_len-le-length (λ x. not (eqb x sep)) xs) refl ∙ first_length sep xs
  where
    go : (k : ℕ) (b : Bool) → (k ≤ length xs) → ltb k (length xs) ≡ b → unwrap_or (cond b (Some k) None) (length xs) ≡ k
    go k true most e = refl
    go k false most e = let past = ltb-false k (length xs) e in omega arith

-- there is one part more than separators
pub parts_count : (sep : ℕ) (xs : List ℕ) → count_by (λ x. eqb x sep) xs + 1 ≡ length (parts sep xs)
parts_count sep [] = refl
parts_count sep (x ∷ xs) = rw (sum_by-cons (λ y. cond (eqb y sep) 1 0) x xs) (go (eqb x sep) (parts sep xs) (some_part sep xs) (parts_count sep xs))
  where
    go : (b : Bool) (ps : List (List ℕ)) → 0 < length ps → count_by (λ y. eqb y sep) xs + 1 ≡ length ps
        → (cond b 1 0 + count_by (λ y. eqb y sep) xs) + 1 ≡ length (cond b ([] ∷ ps) (onto x ps))
    go true ps h e = omega (arith, e)
    go false [] h e = absurd (not-suc-le-zero h)
    go false (p ∷ ps) h e = omega (arith, e)
