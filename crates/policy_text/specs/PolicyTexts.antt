-- "Policy: `ask` with the same five, and `but` with source, destination, protocol, port, belonging to the nearest `ask` above."
-- "In a line: 3, 4, 11, 13, then fields from the left, then 12."
use Rattle.std.specs.Prelude.{cond, not, List, [], ◌∷◌, ◌++◌, ℕ, ◌+◌, eqb, leb, length, Option, None, Some, Result, Ok, Err}
use Rattle.meaning.specs.Blocks.{inside}
use Rattle.meaning.specs.Form.{most_directives, most_exceptions}
use Rattle.meaning.specs.Sizes as sizes
use Rattle.parts.specs.Fields.{field_count}
use Rattle.parts.specs.Words.{bytes}
use Rattle.blocks.specs.Vocabulary.{block_of}
use Rattle.blocks.specs.declared.Block.{Block}
use Rattle.sets.specs.Empty.{zero_block, empty_policy}
use Rattle.sets.specs.Listed.{policy_set}
use Rattle.sets.specs.Vocabulary.{told_or}
use Rattle.sets.specs.declared.Directive.{Directive}
use Rattle.sets.specs.declared.Exception.{Exception}
use Rattle.sets.specs.declared.Policy.{Policy}
use Rattle.sets.specs.declared.Reason.TheVariants.{UnknownWord, FieldCount, NoDirective, OutsideDirective, Full}
use Rattle.sets.specs.declared.Reason.{Reason}
use Rattle.sets.specs.declared.Refusal.{Refusal}
use Rattle.texts.specs.Texts.{Said, goes, stops, read_text}
use Rattle.records.specs.Readers.{refused}
use Rattle.records.specs.Records.{skipped, named, read_block, on_block, read_record, on_record}
use Rattle.records.specs.declared.FieldRefusal.{FieldRefusal}
use Rattle.policy_text.specs.declared.PolicyLine.TheVariants.{Ask, But}
use Rattle.policy_text.specs.declared.PolicyLine.{PolicyLine}

-- an `ask` line, after so many directives
unfoldable pub ask_line : ℕ → List ℕ → Result Directive FieldRefusal
ask_line asked line = on_record (read_record (leb most_directives asked) line) Err (λ r. Ok (record { action = r.action; block = r.block }))

-- what a `but` line says in its fields, under a directive of this block: the fields, and then 12
unfoldable pub but_fields : Block → List ℕ → Result Block FieldRefusal
but_fields above line =
    on_block (read_block line 2) Err (λ b.
    cond (inside (block_of b) (block_of above)) (Ok b) (Err (refused OutsideDirective 0)))

-- a `but` line, its word and a block, after so many directives and exceptions, under the nearest directive above
unfoldable pub but_line : ℕ → ℕ → Block → List ℕ → Result Block FieldRefusal
but_line asked excepted above line =
    cond (not (eqb (field_count line) (1 + sizes.field_count))) (Err (refused FieldCount 0))
    (cond (eqb asked 0) (Err (refused NoDirective 0))
    (cond (leb most_exceptions excepted) (Err (refused Full 0))
    (but_fields above line)))

-- what a line of one kind says: what it asks, or its refusal
abbrev pub says : {A : Type 0} → (A → PolicyLine) → Result A FieldRefusal → Result (Option PolicyLine) FieldRefusal
says kind (Ok a) = Ok (Some (kind a))
says kind (Err r) = Err r

-- what a line says, after so many directives and exceptions, under the nearest directive above
unfoldable pub policy_line : ℕ → ℕ → Block → List ℕ → Result (Option PolicyLine) FieldRefusal
policy_line asked excepted above line =
    cond (skipped line) (Ok None)
    (cond (named (bytes "ask") line) (says Ask (ask_line asked line))
    (cond (named (bytes "but") line) (says But (but_line asked excepted above line))
    (Err (refused UnknownWord 1))))

-- what is read so far: the directives, and the exceptions of them all
pub record Asked : Type 0 where
  pub directives : List Directive
  pub exceptions : List Exception

-- at first nothing
abbrev pub nothing_asked : Asked
nothing_asked = record { directives = []; exceptions = [] }

-- the block of the last directive, which is the nearest above
abbrev pub nearest : List Directive → Block
nearest [] = zero_block
nearest (d ∷ []) = d.block
nearest (d ∷ e ∷ ds) = nearest (e ∷ ds)

-- a directive more; an exception more, which names the last directive, whose number is their count
abbrev pub ask : Asked → Directive → Asked
ask s d = record { directives = s.directives ++ (d ∷ []); exceptions = s.exceptions }

abbrev pub but : Asked → Block → Asked
but s b = record { directives = s.directives; exceptions = s.exceptions ++ (record { directive = length s.directives; block = b } ∷ []) }

-- by what the line says: nothing, a directive, an exception's block, a refusal
abbrev pub on_policy_line : {R : Type 0} → Result (Option PolicyLine) FieldRefusal → R → (Directive → R) → (Block → R) → (Reason → ℕ → R) → R
on_policy_line (Ok None) skip go_ask go_but stop = skip
on_policy_line (Ok (Some (Ask d))) skip go_ask go_but stop = go_ask d
on_policy_line (Ok (Some (But b))) skip go_ask go_but stop = go_but b
on_policy_line (Err r) skip go_ask go_but stop = stop r.reason r.field

-- what a line makes of what is read so far
abbrev pub said_policy : Asked → List ℕ → Said Asked
said_policy s line =
    on_policy_line (policy_line (length s.directives) (length s.exceptions) (nearest s.directives) line)
    (goes s) (λ d. goes (ask s d)) (λ b. goes (but s b)) stops

-- all lines are read: the set of the directives and exceptions
abbrev pub all_asked : Asked → Result Policy Refusal
all_asked s = Ok (policy_set s.directives s.exceptions)

-- the answer to a refusal; "A refused reading hands back the empty set, all records zero", which is what stands beside it (`policy_told`)
abbrev pub none_asked : Asked → Refusal → Result Policy Refusal
none_asked s r = Err r

-- what a policy text means
unfoldable pub read_policy : List ℕ → Result Policy Refusal
read_policy text = read_text said_policy all_asked none_asked nothing_asked text

-- the policy that a reading hands back: what was read, or the empty one beside a refusal
abbrev pub policy_told : Result Policy Refusal → Policy
policy_told = told_or empty_policy
