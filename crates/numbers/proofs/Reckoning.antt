-- Laws of decimal numbers, for every largest value. Assumes nothing.
use mathlib.Core.Bool.{Bool, true, false, cond, not, ◌&&◌, and-false}
use mathlib.Core.List.{List, [], ◌∷◌}
use mathlib.Core.Path.{◌≡◌, refl, ap, ap₂, sym, ◌∙◌}
use native.Mathlib.Numerals.{add-one}
use native.Mathlib.Omega.{arith}
use Rattle.std.specs.Prelude.{Some, None}
use Prim.Native.Nat.{ℕ, ◌+◌, ◌-◌, ◌*◌, ◌≤◌, ◌<◌}
use borrow.Author.Tests.{le-leb, lt-leb, leb-true}
use lib.Dec.{eqb, leb}
use lib.ListN.{length, drop, get_or, drop_of_length-le}
use lib.Seq.{drop-cons}
use Rattle.numbers.specs.Decimals.{digits, plain, value, decimal_of}

-- how a number may begin, by the text's length
pub plain_none : (s : List ℕ) → length s ≡ 0 → plain s ≡ false
plain_none [] e = refl
plain_none (x ∷ xs) e = absurd (omega arith)

pub plain_one : (s : List ℕ) → length s ≡ 1 → plain s ≡ true
plain_one [] e = absurd (omega arith)
plain_one (x ∷ []) e = refl
plain_one (x ∷ y ∷ xs) e = absurd (omega arith)

pub plain_more : (s : List ℕ) → (length s ≡ 0 → ⊥) → (length s ≡ 1 → ⊥) → plain s ≡ not (eqb (get_or s 0 0) 48)
plain_more [] e f = absurd (e refl)
plain_more (x ∷ []) e f = absurd (f refl)
plain_more (x ∷ y ∷ xs) e f = refl

-- digits only make a value larger
pub value_grows : (v : ℕ) (xs : List ℕ) → v ≤ value v xs
value_grows v [] = omega arith
value_grows v (x ∷ xs) = omega (arith, value_grows (v * 10 + (x - 48)) xs)

-- what the byte at place i does
module _ (s : List ℕ) (i : ℕ) (h : i < length s) where
  pub value_at : (v : ℕ) → value v (drop i s) ≡ value (v * 10 + (get_or s i 0 - 48)) (drop (i + 1) s)
  value_at v = ap (value v) (drop-cons s i 0 h) ∙ ap (λ (j : ℕ). value (v * 10 + (get_or s i 0 - 48)) (drop j s)) (sym (add-one i))

  digits_at : digits (drop i s) ≡ ((leb 48 (get_or s i 0) && leb (get_or s i 0) 57) && digits (drop (i + 1) s))
  digits_at = ap digits (drop-cons s i 0 h) ∙ ap (λ (j : ℕ). (leb 48 (get_or s i 0) && leb (get_or s i 0) 57) && digits (drop j s)) (sym (add-one i))

  pub digit_low : get_or s i 0 < 48 → digits (drop i s) ≡ false
  digit_low l = digits_at ∙ ap (λ (b : Bool). (b && leb (get_or s i 0) 57) && digits (drop (i + 1) s)) (lt-leb 48 (get_or s i 0) l)

  pub digit_high : 57 < get_or s i 0 → digits (drop i s) ≡ false
  digit_high l =
      digits_at
      ∙ ap (λ (b : Bool). (leb 48 (get_or s i 0) && b) && digits (drop (i + 1) s)) (lt-leb (get_or s i 0) 57 l)
      ∙ ap (λ (b : Bool). b && digits (drop (i + 1) s)) (and-false (leb 48 (get_or s i 0)))

  pub digit_good : 48 ≤ get_or s i 0 → get_or s i 0 ≤ 57 → digits (drop i s) ≡ digits (drop (i + 1) s)
  digit_good l m =
      digits_at ∙ ap₂ (λ (b b' : Bool). (b && b') && digits (drop (i + 1) s)) (le-leb 48 (get_or s i 0) l) (le-leb (get_or s i 0) 57 m)

-- when a text is a number, and when not
module _ (most : ℕ) (s : List ℕ) where
  pub decimal_is : plain s ≡ true → digits s ≡ true → value 0 s ≤ most → decimal_of most s ≡ Some (value 0 s)
  unfolding decimal_of
  decimal_is p d m = simp (p, d, le-leb (value 0 s) most m)

  pub decimal_unplain : plain s ≡ false → decimal_of most s ≡ None
  unfolding decimal_of
  decimal_unplain p = simp p

  pub decimal_letters : digits s ≡ false → decimal_of most s ≡ None
  unfolding decimal_of
  decimal_letters d = simp (d, and-false)

  pub decimal_large : most < value 0 s → decimal_of most s ≡ None
  unfolding decimal_of
  decimal_large h = simp (lt-leb (value 0 s) most h, and-false)

  -- a number that reads is not past the largest
  pub decimal_le : (n : ℕ) → decimal_of most s ≡ Some n → n ≤ most
  unfolding decimal_of
  decimal_le n e = go (plain s && digits s) (leb (value 0 s) most) refl e
    where
      go : (a b : Bool) → leb (value 0 s) most ≡ b → cond (a && b) (Some (value 0 s)) None ≡ Some n → n ≤ most
      go true true h f = let v : value 0 s ≡ n = cc in omega (arith, leb-true (value 0 s) most h)
      go true false h f = let z : ◌≡◌ {A = ℕ} 0 1 = cc in omega arith
      go false b h f = let z : ◌≡◌ {A = ℕ} 0 1 = cc in omega arith

  -- reading has come to v at place i, and the next byte takes it past the largest
  pub decimal_past : (v i : ℕ) → i < length s → value 0 s ≡ value v (drop i s) → most < v * 10 + (get_or s i 0 - 48) → decimal_of most s ≡ None
  decimal_past v i h e past =
      let is = e ∙ value_at s i h v in
      let grows = value_grows (v * 10 + (get_or s i 0 - 48)) (drop (i + 1) s) in
      decimal_large (omega arith)

  -- reading has come to v at the end
  pub value_read : (v i : ℕ) → length s ≤ i → value 0 s ≡ value v (drop i s) → value 0 s ≡ v
  value_read v i h e = e ∙ ap (value v) (drop_of_length-le s {i = i} h)
