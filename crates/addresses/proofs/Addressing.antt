-- Bounds of an address that reads lie in their field and do not fall. Assumes nothing.
use mathlib.Core.Bool.{Bool, true, false, cond}
use mathlib.Core.List.{List}
use mathlib.Core.Path.{◌≡◌, refl}
use native.Mathlib.Omega.{arith}
use Rattle.std.specs.Prelude.{Option, Some, None, Ok, Err}
use Prim.Native.Nat.{ℕ, zero, suc, ◌+◌, ◌-◌, ◌*◌, ◌/◌, ◌%◌, ◌≤◌}
use borrow.Author.Tests.{eqb-true}
use lib.Count.{ones_in}
use lib.Dec.{eqb}
use lib.ListN.{length}
use lib.Pow.{pow_pos}
use Rattle.parts.specs.Parts.{parts, part, same}
use Rattle.parts.specs.Words.{bytes, slash, minus, dot}
use Rattle.numbers.specs.Decimals.{decimal_of, on_number}
use Rattle.numbers.specs.Intervals.{span, single, range}
use Rattle.numbers.specs.declared.Unfit.TheVariants.{Unread, NoSpan}
use Rattle.numbers.proofs.Spanning.{NotPast, InField, decimal_not_past, single_in_field, range_in_field}
use Rattle.addresses.specs.Addresses.{quad_of, size_of, prefix_of, mask_of, masked_by, sized_by, address_of}
use Rattle.addresses.proofs.Masks.{prefix_fits}

-- the last address
abbrev last : ℕ
last = 4294967295

quad_not_past : (s : List ℕ) → NotPast last (quad_of s)
unfolding quad_of
quad_not_past s =
    go (eqb (length (parts dot s)) 4)
    (decimal_of 255 (part dot s 0))
    (decimal_of 255 (part dot s 1))
    (decimal_of 255 (part dot s 2))
    (decimal_of 255 (part dot s 3))
    (decimal_not_past 255 (part dot s 0))
    (decimal_not_past 255 (part dot s 1))
    (decimal_not_past 255 (part dot s 2))
    (decimal_not_past 255 (part dot s 3))
  where
    go : (four : Bool) (a b c d : Option ℕ) → NotPast 255 a → NotPast 255 b → NotPast 255 c → NotPast 255 d
        → NotPast last
        (cond four
        (on_number a None (λ w.
        on_number b None (λ x.
        on_number c None (λ y.
        on_number d None (λ z. Some (((w * 256 + x) * 256 + y) * 256 + z))))))
        None)
    go false a b c d e f g h = tt
    go true None b c d e f g h = tt
    go true (Some w) None c d e f g h = tt
    go true (Some w) (Some x) None d e f g h = tt
    go true (Some w) (Some x) (Some y) None e f g h = tt
    go true (Some w) (Some x) (Some y) (Some z) e f g h = omega arith

prefix_in_field : (a l : ℕ) → a ≤ last → l ≤ 32 → InField last (prefix_of a l)
unfolding prefix_of
prefix_in_field a l h m = go (eqb (a % size_of l) 0) refl
  where
    go : (b : Bool) → eqb (a % size_of l) 0 ≡ b → InField last (cond b (Ok (span a (a + size_of l - 1))) (Err NoSpan))
    go false e = tt
    go true e =
        let top = prefix_fits a l m (omega arith) (eqb-true (a % size_of l) 0 e) in
        (omega (arith, pow_pos (32 - l)), omega (arith, top, pow_pos (32 - l)))

-- no more ones than digits
ones_few : (k n : ℕ) → ones_in k n ≤ k
unfolding ones_in
ones_few zero n = omega arith
ones_few (suc k) n = omega (arith, ones_few k (n / 2))

masked_in_field : (a m : ℕ) → a ≤ last → InField last (masked_by a m)
unfolding masked_by
masked_in_field a m h = go (eqb m (mask_of (ones_in 32 m)))
  where
    go : (b : Bool) → InField last (cond b (prefix_of a (ones_in 32 m)) (Err NoSpan))
    go true = prefix_in_field a (ones_in 32 m) h (ones_few 32 m)
    go false = tt

sized_in_field : (a : ℕ) (s : List ℕ) → a ≤ last → InField last (sized_by a s)
unfolding sized_by
sized_in_field a s h = go (decimal_of 32 s) (quad_of s) (decimal_not_past 32 s)
  where
    go : (n m : Option ℕ) → NotPast 32 n → InField last (on_number n (on_number m (Err Unread) (masked_by a)) (prefix_of a))
    go (Some l) m e = prefix_in_field a l h e
    go None (Some m) e = masked_in_field a m h
    go None None e = tt

pub address_in_field : (s : List ℕ) → InField last (address_of s)
unfolding address_of
address_in_field s =
    go (same s (bytes "*")) (eqb (length (parts slash s)) 2) (eqb (length (parts minus s)) 2)
    (quad_of (part slash s 0)) (quad_not_past (part slash s 0))
  where
    go : (a b c : Bool) (n : Option ℕ) → NotPast last n
        → InField last
        (cond a (Ok (span 0 last))
        (cond b (on_number n (Err Unread) (λ low. sized_by low (part slash s 1)))
        (cond c (range (quad_of (part minus s 0)) (quad_of (part minus s 1))) (single (quad_of s)))))
    go true b c n h = (omega arith, omega arith)
    go false true c (Some low) h = sized_in_field low (part slash s 1) h
    go false true c None h = tt
    go false false true n h = range_in_field last (quad_of (part minus s 0)) (quad_of (part minus s 1)) (quad_not_past (part minus s 1))
    go false false false n h = single_in_field last (quad_of s) (quad_not_past s)
