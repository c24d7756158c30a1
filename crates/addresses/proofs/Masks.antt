-- Laws of prefixes and of masks. Assumes nothing.
use mathlib.Core.Logic.{◌⊎◌, inl, inr, ⊎_elim}
use mathlib.Core.Path.{◌≡◌, refl, ap, sym, ◌∙◌, subst}
use native.Mathlib.Nat.{pow-suc, le_of_suc-le-suc, not-suc-le-zero, mul-le-mul_right, suc-mul}
use native.Mathlib.Omega.{arith}
use Prim.Native.Nat.{ℕ, zero, suc, ◌+◌, ◌-◌, ◌*◌, ◌/◌, ◌%◌, ◌^◌, ◌≤◌, ◌<◌}
use lib.Count.{ones, ones_in, count_trailing_zeros, under, ones_step, ones-le, ones-ones}
use lib.Pow.{pow_pos, pow-add, shr_lt, split}
use Rattle.addresses.specs.Addresses.{size_of, mask_of}

-- a prefix that starts below the top at a multiple of its size ends below the top
fits : (j k a : ℕ) → a < 2 ^ (j + k) → a % 2 ^ k ≡ 0 → a + 2 ^ k ≤ 2 ^ (j + k)
fits j k a h e =
    let q : suc (a / 2 ^ k) * 2 ^ k ≤ 2 ^ j * 2 ^ k = mul-le-mul_right (2 ^ k) (shr_lt j k h) in
    omega (arith, q, suc-mul (a / 2 ^ k) (2 ^ k), split a k, pow-add 2 j k)

pub prefix_fits : (a l : ℕ) → l ≤ 32 → a < 2 ^ 32 → a % size_of l ≡ 0 → a + size_of l ≤ 2 ^ 32
prefix_fits a l h below e =
    let s : l + (32 - l) ≡ 32 = omega arith in
    subst (λ (n : ℕ). a + size_of l ≤ 2 ^ n) s (fits l (32 - l) a (subst (λ (n : ℕ). a < 2 ^ n) (sym s) below) e)

parity : (n : ℕ) → (n % 2 ≡ 0) ⊎ (n % 2 ≡ 1)
parity n = from (n % 2) (omega arith)
  where
    from : (d : ℕ) → d < 2 → (d ≡ 0) ⊎ (d ≡ 1)
    from zero h = inl refl
    from (suc zero) h = inr refl
    from (suc (suc d)) h = absurd (not-suc-le-zero (le_of_suc-le-suc (le_of_suc-le-suc h)))

-- the ones among k digits are all the ones of a number of k digits
pub ones_in_lem : (k n : ℕ) → n < 2 ^ k → ones_in k n ≡ ones n
unfolding ones_in ones
ones_in_lem zero zero h = refl
ones_in_lem zero (suc n) h = absurd (not-suc-le-zero (le_of_suc-le-suc h))
ones_in_lem (suc k) n h = ap (λ (x : ℕ). n % 2 + x) (ones_in_lem k (n / 2) (omega (arith, pow-suc 2 k))) ∙ sym (ones_step n)

-- k digits that are all ones
ones_full : (k n : ℕ) → n < 2 ^ k → ones n ≡ k → n ≡ 2 ^ k - 1
ones_full zero n h e = omega arith
ones_full (suc k) n h e =
    let half : n / 2 < 2 ^ k = omega (arith, pow-suc 2 k) in
    let r = ones_full k (n / 2) half (omega (arith, ones_step n, ones-le k (n / 2) half)) in
    omega (arith, ones_step n, ones-le k (n / 2) half, pow-suc 2 k, pow_pos k)

-- ones and trailing zeros that make up all k digits: ones, and then zeros
run_shape : (k n : ℕ) → n < 2 ^ k → ones n + count_trailing_zeros k n ≡ k → n ≡ 2 ^ k - 2 ^ count_trailing_zeros k n
unfolding count_trailing_zeros
run_shape zero n h e = omega arith
run_shape (suc k) n h e =
    let t = count_trailing_zeros k (n / 2) in
    let half : n / 2 < 2 ^ k = omega (arith, pow-suc 2 k) in
    ⊎_elim
    (λ (p : n % 2 ≡ 0).
    let e' : ones n + under 0 t ≡ suc k = subst (λ (x : ℕ). ones n + under x t ≡ suc k) p e in
    let r = run_shape k (n / 2) half (omega (arith, e', ones_step n)) in
    subst (λ (x : ℕ). n ≡ 2 ^ suc k - 2 ^ under x t) (sym p) (omega (arith, r, pow-suc 2 k, pow-suc 2 t)))
    (λ (p : n % 2 ≡ 1).
    let e' : ones n + under 1 t ≡ suc k = subst (λ (x : ℕ). ones n + under x t ≡ suc k) p e in
    subst (λ (x : ℕ). n ≡ 2 ^ suc k - 2 ^ under x t) (sym p) (ones_full (suc k) n h (omega (arith, e'))))
    (parity n)

-- and the other way round
run_counts : (k t : ℕ) → t ≤ k → ones (2 ^ k - 2 ^ t) + count_trailing_zeros k (2 ^ k - 2 ^ t) ≡ k
unfolding count_trailing_zeros ones
run_counts zero zero h = refl
run_counts zero (suc t) h = absurd (not-suc-le-zero h)
run_counts (suc k) zero h =
    let p : (2 ^ suc k - 1) % 2 ≡ 1 = omega (arith, pow-suc 2 k, pow_pos k) in
    subst (λ (x : ℕ). ones (2 ^ suc k - 1) + under x (count_trailing_zeros k ((2 ^ suc k - 1) / 2)) ≡ suc k) (sym p) (omega (arith, ones-ones (suc k)))
run_counts (suc k) (suc t) h =
    let p : (2 ^ suc k - 2 ^ suc t) % 2 ≡ 0 = omega (arith, pow-suc 2 k, pow-suc 2 t) in
    let q : (2 ^ suc k - 2 ^ suc t) / 2 ≡ 2 ^ k - 2 ^ t = omega (arith, pow-suc 2 k, pow-suc 2 t) in
    let r = run_counts k t (le_of_suc-le-suc h) in
    let o : ones (2 ^ suc k - 2 ^ suc t) ≡ ones (2 ^ k - 2 ^ t) =
    ones_step (2 ^ suc k - 2 ^ suc t) ∙ ap (λ (x : ℕ). x + ones ((2 ^ suc k - 2 ^ suc t) / 2)) p ∙ omega arith ∙ ap ones q in
    subst (λ (x : ℕ). ones (2 ^ suc k - 2 ^ suc t) + under x (count_trailing_zeros k ((2 ^ suc k - 2 ^ suc t) / 2)) ≡ suc k) (sym p)
    (omega (arith, o, r, ap (count_trailing_zeros k) q))

-- so the test on counts of digits is the test for a mask
pub mask_yes : (m : ℕ) → m < 2 ^ 32 → ones m + count_trailing_zeros 32 m ≡ 32 → m ≡ mask_of (ones_in 32 m)
mask_yes m h e =
    let t : count_trailing_zeros 32 m ≡ 32 - ones_in 32 m = omega (arith, ones_in_lem 32 m h) in
    run_shape 32 m h e ∙ ap (λ (x : ℕ). 2 ^ 32 - 2 ^ x) t

pub mask_no : (m : ℕ) → (ones m + count_trailing_zeros 32 m ≡ 32 → ⊥) → m ≡ mask_of (ones_in 32 m) → ⊥
mask_no m ne e = ne (subst (λ (x : ℕ). ones x + count_trailing_zeros 32 x ≡ 32) (sym e) (run_counts 32 (32 - ones_in 32 m) (omega arith)))
