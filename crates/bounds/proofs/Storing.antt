-- Runs of stores into an array, one behind the other: numbers, and the bounds of blocks. Assumes nothing.
use mathlib.Core.Path.{◌≡◌, refl, sym, ap, ◌∙◌}
use mathlib.Core.List.{List, [], ◌∷◌, ◌++◌, append_assoc, map}
use Prim.Native.Nat.{ℕ, ◌+◌, ◌*◌, ◌≤◌}
use native.Mathlib.Omega.{arith}
use lib.ListN.{length, take, drop, length-append}
use lib.Seq.{sets, sets-eq, take_at}
use Rattle.meaning.specs.Blocks.{Block}
use Rattle.meaning.specs.Buffers.{bounds}
use Rattle.meaning.specs.Sizes.{block_bounds}
use Rattle.meaning.proofs.BufferStores.{sets_append}
use Rattle.bounds.specs.Spans.{numbers_of, InFront}
use Rattle.bounds.proofs.Within.{made_within}

-- a run of stores from the front on stands in front of the array
pub sets_front : (xs l : List ℕ) → length xs ≤ length l → take (length xs) (sets l 0 xs) ≡ xs
sets_front xs l fits = ap (take (length xs)) (sets-eq xs l 0 (omega arith)) ∙ take_at xs (drop (0 + length xs) l) (length xs) refl

-- the numbers of two runs of blocks
pub numbers_append : (bs cs : List Block) → numbers_of (bs ++ cs) ≡ numbers_of bs ++ numbers_of cs
unfolding numbers_of
numbers_append [] cs = refl
numbers_append (b ∷ bs) cs =
    ap (λ (l : List ℕ). bounds b ++ l) (numbers_append bs cs) ∙ sym (append_assoc (bounds b) (numbers_of bs) (numbers_of cs))

-- the numbers of blocks stored behind those of others
pub stored_behind : (l : List ℕ) (start at : ℕ) (bs cs : List Block) → at ≡ start + length (numbers_of bs)
    → sets (sets l start (numbers_of bs)) at (numbers_of cs) ≡ sets l start (numbers_of (bs ++ cs))
stored_behind l start at bs cs behind =
    ap (λ (k : ℕ). sets (sets l start (numbers_of bs)) k (numbers_of cs)) behind
    ∙ sym (ap (sets l start) (numbers_append bs cs) ∙ sets_append (numbers_of bs) (numbers_of cs) l start)

-- the bounds of rules, directives and exceptions, stored one after the other: they stand in front of the array
pub blocks_in_front : (l : List ℕ) (rs ds es : List Block) (r d e : ℕ)
    → length (numbers_of rs) ≡ block_bounds * r
    → length (numbers_of ds) ≡ block_bounds * d
    → length (numbers_of es) ≡ block_bounds * e
    → block_bounds * (r + d + e) ≤ length l
    → (one two three : List ℕ)
    → one ≡ sets l 0 (numbers_of rs)
    → two ≡ sets one (block_bounds * r) (numbers_of ds)
    → three ≡ sets two (block_bounds * (r + d)) (numbers_of es)
    → InFront (rs ++ ds ++ es) three
blocks_in_front l rs ds es r d e long_rs long_ds long_es room one two three is_one is_two is_three =
    let long : length (numbers_of (rs ++ ds)) ≡ block_bounds * (r + d) =
    ap length (numbers_append rs ds) ∙ length-append (numbers_of rs) (numbers_of ds) ∙ omega arith in
    let long_all : length (numbers_of (rs ++ ds ++ es)) ≡ block_bounds * (r + d + e) =
    ap length (numbers_append (rs ++ ds) es) ∙ length-append (numbers_of (rs ++ ds)) (numbers_of es) ∙ omega arith in
    let both : two ≡ sets l 0 (numbers_of (rs ++ ds)) =
    is_two ∙ ap (λ (x : List ℕ). sets x (block_bounds * r) (numbers_of ds)) is_one ∙ stored_behind l 0 (block_bounds * r) rs ds (omega arith) in
    let all : three ≡ sets l 0 (numbers_of (rs ++ ds ++ es)) =
    is_three ∙ ap (λ (x : List ℕ). sets x (block_bounds * (r + d)) (numbers_of es)) both ∙ stored_behind l 0 (block_bounds * (r + d)) (rs ++ ds) es (omega arith) in
    ap (take (length (numbers_of (rs ++ ds ++ es)))) all ∙ sets_front (numbers_of (rs ++ ds ++ es)) l (omega arith)

-- the blocks of records, stored: what is made of the records within their count
pub put_within : {A B : Type 0} (f : A → B) (g : B → Block) (records : List A) (count : ℕ) (l : List ℕ) (at : ℕ) {stored : List ℕ}
    → stored ≡ sets l at (numbers_of (map (λ (a : A). g (f a)) (take count records)))
    → stored ≡ sets l at (numbers_of (map g (take count (map f records))))
put_within f g records count l at put = put ∙ ap (λ (bs : List Block). sets l at (numbers_of bs)) (sym (made_within f g records count))
