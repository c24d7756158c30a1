-- "`*`, a number, or `low-high`. The bounds of these ranges are decimal numbers."
use Rattle.std.specs.Prelude.{cond, List, ℕ, eqb, leb, length, Option, Result, Ok, Err}
use Rattle.parts.specs.Parts.{parts, part, same}
use Rattle.parts.specs.Words.{bytes, minus}
use Rattle.blocks.specs.declared.Span.{Span}
use Rattle.numbers.specs.Decimals.{decimal_of, on_number}
use Rattle.numbers.specs.declared.Unfit.TheVariants.{Unread, NoSpan}
use Rattle.numbers.specs.declared.Unfit.{Unfit}

-- the numbers from low to high
abbrev pub span : ℕ → ℕ → Span
span low high = record { low = low; high = high }

-- one number is both bounds
abbrev pub single : Option ℕ → Result Span Unfit
single n = on_number n (Err Unread) (λ a. Ok (span a a))

-- two numbers that read are bounds if they do not fall
abbrev pub range : Option ℕ → Option ℕ → Result Span Unfit
range n m = on_number n (Err Unread) (λ low. on_number m (Err Unread) (λ high. cond (leb low high) (Ok (span low high)) (Err NoSpan)))

-- `*` alone is the whole field; one minus sign parts two bounds
unfoldable pub interval_of : ℕ → List ℕ → Result Span Unfit
interval_of most s =
    cond (same s (bytes "*")) (Ok (span 0 most))
    (cond (eqb (length (parts minus s)) 2) (range (decimal_of most (part minus s 0)) (decimal_of most (part minus s 1)))
    (single (decimal_of most s)))
