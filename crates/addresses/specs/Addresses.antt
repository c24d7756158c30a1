-- "Address: `*`; a dotted quad; `quad/length`, length 0 to 32; `quad/mask`, the mask a dotted quad; `quad-quad`."
use Rattle.std.specs.Prelude.{cond, List, ℕ, ◌+◌, ◌-◌, ◌*◌, ◌%◌, ◌^◌, eqb, length, Option, None, Some, Result, Ok, Err}
use Rattle.std.specs.Int.Count.{ones_in}
use Rattle.parts.specs.Parts.{parts, part, same}
use Rattle.parts.specs.Words.{bytes, slash, minus, dot}
use Rattle.numbers.specs.Decimals.{decimal_of, on_number}
use Rattle.numbers.specs.Intervals.{span, single, range}
use Rattle.blocks.specs.declared.Span.{Span}
use Rattle.numbers.specs.declared.Unfit.TheVariants.{Unread, NoSpan}
use Rattle.numbers.specs.declared.Unfit.{Unfit}

-- four numbers up to 255 between dots
unfoldable pub quad_of : List ℕ → Option ℕ
quad_of s =
    cond (eqb (length (parts dot s)) 4)
    (on_number (decimal_of 255 (part dot s 0)) None (λ a.
    on_number (decimal_of 255 (part dot s 1)) None (λ b.
    on_number (decimal_of 255 (part dot s 2)) None (λ c.
    on_number (decimal_of 255 (part dot s 3)) None (λ d.
    Some (((a * 256 + b) * 256 + c) * 256 + d))))))
    None

-- how many addresses a prefix length leaves: 4,294,967,296 down to 1
abbrev pub size_of : ℕ → ℕ
size_of l = 2 ^ (32 - l)

-- "High is low plus size less 1. Bits past the length must be zero."
unfoldable pub prefix_of : ℕ → ℕ → Result Span Unfit
prefix_of a l = cond (eqb (a % size_of l) 0) (Ok (span a (a + size_of l - 1))) (Err NoSpan)

-- l ones, and then zeros, 32 in all
abbrev pub mask_of : ℕ → ℕ
mask_of l = 2 ^ 32 - size_of l

-- "A mask must be ones followed by zeros; its length is its number of ones."
unfoldable pub masked_by : ℕ → ℕ → Result Span Unfit
masked_by a m = cond (eqb m (mask_of (ones_in 32 m))) (prefix_of a (ones_in 32 m)) (Err NoSpan)

-- what stands after the slash: a length or a mask
unfoldable pub sized_by : ℕ → List ℕ → Result Span Unfit
sized_by a s = on_number (decimal_of 32 s) (on_number (quad_of s) (Err Unread) (masked_by a)) (prefix_of a)

-- the five forms
unfoldable pub address_of : List ℕ → Result Span Unfit
address_of s =
    cond (same s (bytes "*")) (Ok (span 0 4294967295))
    (cond (eqb (length (parts slash s)) 2) (on_number (quad_of (part slash s 0)) (Err Unread) (λ a. sized_by a (part slash s 1)))
    (cond (eqb (length (parts minus s)) 2) (range (quad_of (part minus s 0)) (quad_of (part minus s 1)))
    (single (quad_of s))))
