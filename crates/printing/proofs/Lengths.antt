-- How long what is printed can be, by the definitions alone. Assumes nothing.
use mathlib.Core.Path.{◌≡◌, ap, ◌∙◌}
use mathlib.Core.List.{List, [], ◌∷◌, ◌++◌}
use Prim.Native.Nat.{ℕ, zero, suc, ◌+◌, ◌*◌, ◌/◌, ◌%◌, ◌≤◌}
use native.Mathlib.Decide.{dec_lt, ℕ_discrete}
use native.Mathlib.Omega.{arith}
use borrow.Author.Tests.{lt-ltb, le-ltb, eq-eqb, ne_eqb}
use lib.ListN.{length, length-append}
use Rattle.meaning.specs.Blocks.{Block}
use Rattle.meaning.specs.Fields.{Packet}
use Rattle.meaning.specs.Form.{Refusal}
use Rattle.meaning.specs.Labels.{Label, good, conflict, wrong, unasked, unmet_accept, unmet_deny, kind, rule}
use Rattle.meaning.specs.Verdicts.{Verdict}
use Rattle.parts.specs.Words.{bytes, newline}
use Rattle.putting.specs.Spelling.{digit, decimal_below, decimal, quad}
use Rattle.printing.specs.Lines.{spaced, line, spellings, numbers_of, bounds_of, word, verdict_fields, verdict_line, blocks_line, block_line, refused_line, unreadable_line}

-- a number has at most 20 digits, a quad at most 83 bytes
below_few : (k n : ℕ) → length (decimal_below k n) ≤ k
below_few zero n = omega arith
below_few (suc k) n =
    elim (dec_lt n 10) [
      | yes l ↦ simp (lt-ltb n 10 l) (omega arith)
      | no l ↦ simp (le-ltb n 10 (omega arith)) (omega (arith, length-append (decimal_below k (n / 10)) (digit (n % 10) ∷ []), below_few k (n / 10)))
    ]

decimal_few : (n : ℕ) → length (decimal n) ≤ 20
unfolding decimal
decimal_few n = below_few 20 n

quad_few : (n : ℕ) → length (quad n) ≤ 83
unfolding quad
quad_few n =
    let a = decimal (n / 16_777_216) in
    let b = decimal (n / 65_536 % 256) in
    let c = decimal (n / 256 % 256) in
    let d = decimal (n % 256) in
    omega (
      arith,
      length-append a (46 ∷ (b ++ (46 ∷ (c ++ (46 ∷ d))))),
      length-append b (46 ∷ (c ++ (46 ∷ d))),
      length-append c (46 ∷ d),
      decimal_few (n / 16_777_216),
      decimal_few (n / 65_536 % 256),
      decimal_few (n / 256 % 256),
      decimal_few (n % 256),
    )

-- one field more
field_length : (f : List ℕ) (fs : List (List ℕ)) → length (spaced (f ∷ fs)) ≡ suc (length f + length (spaced fs))
field_length f fs = ap suc (length-append f (spaced fs))

line_length : (first : List ℕ) (fs : List (List ℕ)) → length (line first fs) ≡ length first + (length (spaced fs) + 1)
line_length first fs = length-append first (spaced fs ++ (newline ∷ [])) ∙ ap (λ (n : ℕ). length first + n) (length-append (spaced fs) (newline ∷ []))

-- each spelling of a list is at most so long, by a list of numbers
data Fits : List (ℕ → List ℕ) → List ℕ → Type 0 where
  fits_none : Fits [] []
  fits_more : {f : ℕ → List ℕ} {m : ℕ} {fs : List (ℕ → List ℕ)} {ms : List ℕ} → ((n : ℕ) → length (f n) ≤ m) → Fits fs ms → Fits (f ∷ fs) (m ∷ ms)

-- how long the bounds of a block and the numbers of a packet can then be
abbrev pub bounds_room : List ℕ → ℕ
bounds_room [] = 0
bounds_room (m ∷ ms) = 2 * (m + 1) + bounds_room ms

abbrev pub numbers_room : List ℕ → ℕ
numbers_room [] = 0
numbers_room (m ∷ ms) = (m + 1) + numbers_room ms

bounds_fit : {fs : List (ℕ → List ℕ)} {ms : List ℕ} → Fits fs ms → (b : Block) → length (spaced (bounds_of fs b)) ≤ bounds_room ms
bounds_fit fits_none b = omega arith
bounds_fit (fits_more one others) [] = omega arith
bounds_fit (fits_more {f} {fs = fs} one others) (s ∷ b) =
    omega (
      arith,
      field_length (f s.low) (f s.high ∷ bounds_of fs b),
      field_length (f s.high) (bounds_of fs b),
      one s.low,
      one s.high,
      bounds_fit others b,
    )

numbers_fit : {fs : List (ℕ → List ℕ)} {ms : List ℕ} → Fits fs ms → (p : Packet) → length (spaced (numbers_of fs p)) ≤ numbers_room ms
numbers_fit fits_none p = omega arith
numbers_fit (fits_more one others) [] = omega arith
numbers_fit (fits_more {f} {fs = fs} one others) (x ∷ p) = omega (arith, field_length (f x) (numbers_of fs p), one x, numbers_fit others p)

-- the longest of each field's spelling
abbrev pub longest : List ℕ
longest = 83 ∷ 83 ∷ 20 ∷ 20 ∷ []

spellings_fit : Fits spellings longest
spellings_fit = fits_more quad_few (fits_more quad_few (fits_more decimal_few (fits_more decimal_few fits_none)))

-- the longest line of a block and of a verdict
abbrev pub most_block_line : ℕ
most_block_line = bounds_room longest + 48

abbrev pub most_verdict_line : ℕ
most_verdict_line = numbers_room longest + 84

word_few : (l : Label) → length (word l) ≤ 12
word_few good = omega arith
word_few conflict = omega arith
word_few (wrong n) = omega arith
word_few (unasked n) = omega arith
word_few unmet_accept = omega arith
word_few unmet_deny = omega arith

-- each line
pub block_line_few : (k r : ℕ) (b : Block) → length (block_line k r b) ≤ most_block_line
unfolding block_line
block_line_few k r b =
    let bs = bounds_of spellings b in
    omega (
      arith,
      line_length (bytes "block") (decimal k ∷ decimal r ∷ bs),
      field_length (decimal k) (decimal r ∷ bs),
      field_length (decimal r) bs,
      decimal_few k,
      decimal_few r,
      bounds_fit spellings_fit b,
    )

pub blocks_line_few : (n : ℕ) → length (blocks_line n) ≤ 28
unfolding blocks_line
blocks_line_few n = omega (arith, line_length (bytes "blocks") (decimal n ∷ []), field_length (decimal n) [], decimal_few n)

pub verdict_line_few : (v : Verdict) → length (verdict_line v) ≤ most_verdict_line
unfolding verdict_line
verdict_line_few v =
    let r = decimal (rule v.label) in
    let a = decimal v.accept_directive in
    let d = decimal v.deny_directive in
    let p = numbers_of spellings v.packet in
    elim (ℕ_discrete (kind v.label) 0) [
      | yes e ↦ simp (eq-eqb _ 0 e) (omega arith)
      | no e ↦
          simp (ne_eqb _ 0 e)
          (omega (
            arith,
            line_length (bytes "verdict") (verdict_fields v),
            field_length (word v.label) (r ∷ a ∷ d ∷ p),
            field_length r (a ∷ d ∷ p),
            field_length a (d ∷ p),
            field_length d p,
            word_few v.label,
            decimal_few (rule v.label),
            decimal_few v.accept_directive,
            decimal_few v.deny_directive,
            numbers_fit spellings_fit v.packet,
          ))
    ]

pub refused_line_few : (name : List ℕ) (r : Refusal) → length (refused_line name r) ≤ length name + 72
unfolding refused_line
refused_line_few name r =
    let n = decimal r.number in
    let l = decimal r.line in
    let f = decimal r.field in
    omega (
      arith,
      line_length (bytes "refused") (name ∷ n ∷ l ∷ f ∷ []),
      field_length name (n ∷ l ∷ f ∷ []),
      field_length n (l ∷ f ∷ []),
      field_length l (f ∷ []),
      field_length f [],
      decimal_few r.number,
      decimal_few r.line,
      decimal_few r.field,
    )

pub unreadable_line_few : (name : List ℕ) → length (unreadable_line name) ≤ length name + 12
unfolding unreadable_line
unreadable_line_few name = omega (arith, line_length (bytes "unreadable") (name ∷ []), field_length name [])
