-- Bounds that read lie in their field and do not fall. Assumes nothing.
use mathlib.Core.Bool.{Bool, true, false, cond}
use mathlib.Core.List.{List}
use mathlib.Core.Path.{◌≡◌, refl}
use native.Mathlib.Omega.{arith}
use Rattle.std.specs.Prelude.{Option, Some, None, Result, Ok, Err}
use Prim.Native.Nat.{ℕ, ◌≤◌}
use borrow.Author.Tests.{leb-true}
use lib.Dec.{eqb, leb}
use lib.ListN.{length}
use Rattle.parts.specs.Parts.{parts, part, same}
use Rattle.parts.specs.Words.{bytes, minus}
use Rattle.numbers.specs.Decimals.{decimal_of}
use Rattle.numbers.specs.Intervals.{span, single, range, interval_of}
use Rattle.blocks.specs.declared.Span.{Span}
use Rattle.numbers.specs.declared.Unfit.TheVariants.{NoSpan}
use Rattle.numbers.specs.declared.Unfit.{Unfit}
use Rattle.numbers.proofs.Reckoning.{decimal_le}

-- a number that reads is not past the largest
abbrev pub NotPast : ℕ → Option ℕ → Type 0
NotPast most (Some n) = n ≤ most
NotPast most None = Unit {0}

-- bounds that read do not fall, and the high one is not past the largest
abbrev pub InField : ℕ → Result Span Unfit → Type 0
InField most (Ok s) = (s.low ≤ s.high) × (s.high ≤ most)
InField most (Err e) = Unit {0}

pub decimal_not_past : (most : ℕ) (s : List ℕ) → NotPast most (decimal_of most s)
decimal_not_past most s = go (decimal_of most s) refl
  where
    go : (n : Option ℕ) → decimal_of most s ≡ n → NotPast most n
    go (Some n) e = decimal_le most s n e
    go None e = tt

pub single_in_field : (most : ℕ) (n : Option ℕ) → NotPast most n → InField most (single n)
single_in_field most (Some n) h = (omega arith, h)
single_in_field most None h = tt

pub range_in_field : (most : ℕ) (n m : Option ℕ) → NotPast most m → InField most (range n m)
range_in_field most None m h = tt
range_in_field most (Some low) None h = tt
range_in_field most (Some low) (Some high) h = go (leb low high) refl
  where
    go : (b : Bool) → leb low high ≡ b → InField most (cond b (Ok (span low high)) (Err NoSpan))
    go true e = (leb-true low high e, h)
    go false e = tt

pub interval_in_field : (most : ℕ) (s : List ℕ) → InField most (interval_of most s)
unfolding interval_of
interval_in_field most s = go (same s (bytes "*")) (eqb (length (parts minus s)) 2)
  where
    go : (a b : Bool)
        → InField most
        (cond a (Ok (span 0 most)) (cond b (range (decimal_of most (part minus s 0)) (decimal_of most (part minus s 1))) (single (decimal_of most s))))
    go true b = (omega arith, omega arith)
    go false true = range_in_field most (decimal_of most (part minus s 0)) (decimal_of most (part minus s 1)) (decimal_not_past most (part minus s 1))
    go false false = single_in_field most (decimal_of most s) (decimal_not_past most s)
