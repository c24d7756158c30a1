-- The lines of "One whole run".
use Rattle.std.specs.Prelude.{cond, List, [], ◌∷◌, ◌++◌, ℕ, eqb}
use Prim.Native.Char.{code}
use Rattle.meaning.specs.Blocks.{Block}
use Rattle.meaning.specs.Fields.{Packet}
use Rattle.meaning.specs.Form.{Refusal}
use Rattle.meaning.specs.Labels.{Label, good, conflict, wrong, unasked, unmet_accept, unmet_deny, kind, rule}
use Rattle.meaning.specs.Verdicts.{Verdict}
use Rattle.parts.specs.Words.{bytes, newline}
use Rattle.putting.specs.Spelling.{decimal, quad}

-- fields, one space before each
abbrev pub spaced : List (List ℕ) → List ℕ
spaced [] = []
spaced (f ∷ fs) = (code " " ∷ f) ++ spaced fs

-- "Fields parted by one space and each line ended by byte 10": a line with this first field and these behind it
abbrev pub line : List ℕ → List (List ℕ) → List ℕ
line first fs = first ++ (spaced fs ++ (newline ∷ []))

-- how the numbers of source, destination, protocol and port are spelled
abbrev pub spellings : List (ℕ → List ℕ)
spellings = quad ∷ quad ∷ decimal ∷ decimal ∷ []

-- a packet's numbers, each in its spelling
abbrev pub numbers_of : List (ℕ → List ℕ) → Packet → List (List ℕ)
numbers_of [] p = []
numbers_of (f ∷ fs) [] = []
numbers_of (f ∷ fs) (x ∷ p) = f x ∷ numbers_of fs p

-- "four pairs of bounds"
abbrev pub bounds_of : List (ℕ → List ℕ) → Block → List (List ℕ)
bounds_of [] b = []
bounds_of (f ∷ fs) [] = []
bounds_of (f ∷ fs) (s ∷ b) = f s.low ∷ f s.high ∷ bounds_of fs b

-- the words of the table of kinds; that of a good label is the verdict's
abbrev pub word : Label → List ℕ
word good = bytes "conforms"
word conflict = bytes "conflict"
word (wrong n) = bytes "wrong"
word (unasked n) = bytes "unasked"
word unmet_accept = bytes "unmet-accept"
word unmet_deny = bytes "unmet-deny"

-- "Verdict fields: word, rule, accept directive, deny directive, packet."
abbrev pub verdict_fields : Verdict → List (List ℕ)
verdict_fields v =
    word v.label ∷ decimal (rule v.label) ∷ decimal v.accept_directive ∷ decimal v.deny_directive ∷ numbers_of spellings v.packet

-- "A conforming pair prints `verdict conforms`."
unfoldable pub verdict_line : Verdict → List ℕ
verdict_line v = cond (eqb (kind v.label) 0) (line (bytes "verdict") (bytes "conforms" ∷ [])) (line (bytes "verdict") (verdict_fields v))

-- the line of the total
unfoldable pub blocks_line : ℕ → List ℕ
blocks_line total = line (bytes "blocks") (decimal total ∷ [])

-- "Block fields: kind, rule, four pairs of bounds."
unfoldable pub block_line : ℕ → ℕ → Block → List ℕ
block_line k r b = line (bytes "block") (decimal k ∷ decimal r ∷ bounds_of spellings b)

-- "`refused`, file name, number, line, field"
unfoldable pub refused_line : List ℕ → Refusal → List ℕ
refused_line name r = line (bytes "refused") (name ∷ decimal r.number ∷ decimal r.line ∷ decimal r.field ∷ [])

-- "`unreadable` and the first such file's name"
unfoldable pub unreadable_line : List ℕ → List ℕ
unreadable_line name = line (bytes "unreadable") (name ∷ [])
