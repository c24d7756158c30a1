-- "Given both texts, which one, and a record number from 1, the answer is that line without its byte 10, as part of the text it came
-- from. Records are lines whose first field is `rule` or `ask` respectively; an unended last line counts. If there is no such record,
-- the empty part at the start of the text named."
use Rattle.std.specs.Prelude.{cond, List, [], ◌∷◌, ℕ, ◌-◌, eqb, get_or}
use Rattle.std.specs.Borrow.{Bor}
use Rattle.parts.specs.Parts.{Piece, pieces}
use Rattle.parts.specs.Words.{bytes, newline}
use Rattle.records.specs.Records.{named}
use Rattle.lookup.specs.declared.Which.TheVariants.{Rules, Policy}
use Rattle.lookup.specs.declared.Which.{Which}

-- the lines whose first field is the word, with their places
abbrev pub records_among : List ℕ → List Piece → List Piece
records_among word [] = []
records_among word (p ∷ ps) = cond (named word p.bytes) (p ∷ records_among word ps) (records_among word ps)

-- the empty part at the start
abbrev pub nowhere : Piece
nowhere = record { place = 0; bytes = [] }

-- number n of them, counted from 1, if there is one
abbrev pub number_of : ℕ → List Piece → Piece
number_of n ps = cond (eqb n 0) nowhere (get_or ps (n - 1) nowhere)

-- record n of a text
abbrev pub record_of : List ℕ → List ℕ → ℕ → Piece
record_of word text n = number_of n (records_among word (pieces newline text))

-- the first word of a record of each text, and the text that is named
abbrev pub word_of : Which → List ℕ
word_of Rules = bytes "rule"
word_of Policy = bytes "ask"

abbrev pub text_of : Which → Bor (List ℕ) → Bor (List ℕ) → Bor (List ℕ)
text_of Rules rules policy = rules
text_of Policy rules policy = policy
