-- The meaning of the papers. Read the files in the order below; all but Records, Strips and Sizes restate sentences of the papers,
-- and words in quotation marks are theirs. Those three hold what the others need to be said shortly.
--
-- How to read them. Numbers: `suc n` is n + 1, `leb`, `ltb` and `eqb` test ≤, < and =. Lists: `x ∷ xs` has the first element x, `[]`
-- is empty, `++` joins two; `length`, `take k`, `drop k` and `map f` are what they are called; `get_or xs i d` is element i, counted
-- from 0, or d past the end, and `get_elem? xs i` is `some` element or `none`. Tests: `&&` and `||` join them, `cond t a b` is a if t
-- passes and b if not, and `T t` says that t passes. Statements: `A → B` is "if A then B" (or a function from A to B), `(x : A) → B`
-- "for all x", `(x : A) × B` "there is an x with B", `×` "and", `⊎` "or", `¬` "not", `≡` "equals"; a `data` relation holds just where
-- one of its cases says so. Terms: `f x y` is f at x and y, `λ x. e` the function that takes x to e, `r.field` a field of a record,
-- `.0` and `.1` the parts of a pair. What stands in braces, `Type`, and the marks `abbrev`, `unfoldable` and `pub` are for the prover.
-- In the other crates: `replicate n x` is a list of n times x. A contract in `src/` stands in the braces behind `requires`, which is asked
-- of a caller, and `ensures`, which is promised; two of a kind have a name each, and `result` is the answer. There `s.now` are the bytes of a
-- slice s that is lent to be read. Of one that is lent to be changed, `s.old` are those when the call begins, and `s.new` those when it
-- ends. `s.entry` is a lent slice as it was passed, and `.ref_ptr` its address: a block of memory, and the place in it. `code "x"` is the
-- number of a character. `a - b` is 0 where b is larger, `%` is the remainder, `/` the quotient without it, `^` a power, `min` the smaller, and
-- `10_617` is 10,617. `set xs i x` is xs with x for element i, `sets xs i ys` with the elements of ys from i on. `bit_and`, `bit_or` and
-- `bit_xor` go by binary digits: those that both numbers have set, that one has, that just one has; `count_trailing_zeros 64 n` counts the
-- digits that are 0 below the lowest that is set, of 64. What stands after `module _` belongs to every definition below it.
pub mod Fields
pub mod Blocks
pub mod Records
pub mod Rules
pub mod Policies
pub mod Labels
pub mod Conformance
pub mod Verdicts
pub mod Listings
pub mod Buffers
pub mod Strips
pub mod Form
pub mod Sizes
pub mod Document
