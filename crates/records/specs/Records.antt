-- What a line and its fields say, in both texts: whether it is skipped, its first word, an action, a block, and what a rule and a directive have in common.
use Rattle.std.specs.Prelude.{Bool, true, cond, not, List, [], ◌∷◌, ℕ, ◌+◌, eqb, Option, None, Some, Result, Ok, Err}
use Prim.Native.Char.{code}
use Rattle.meaning.specs.Sizes as sizes
use Rattle.parts.specs.Fields.{field, field_count}
use Rattle.parts.specs.Parts.{same}
use Rattle.parts.specs.Words.{bytes}
use Rattle.blocks.specs.Vocabulary.{block_from}
use Rattle.blocks.specs.declared.Block.{Block}
use Rattle.sets.specs.declared.Action.TheVariants.{Deny, Accept}
use Rattle.sets.specs.declared.Action.{Action}
use Rattle.sets.specs.declared.Reason.TheVariants.{FieldCount, ActionUnread, Full}
use Rattle.records.specs.Readers.{readers, refused, on_spans, read_spans}
use Rattle.records.specs.declared.FieldRefusal.{FieldRefusal}
use Rattle.records.specs.declared.Record.{Record}

-- "Lines that are empty or start with `#` are skipped"
abbrev pub skipped : List ℕ → Bool
skipped [] = true
skipped (x ∷ xs) = eqb x (code "#")

-- the line's first field is the word
abbrev pub named : List ℕ → List ℕ → Bool
named word line = same (field line 1) word

-- the action in field 2: `accept` or `deny`
unfoldable pub read_action : List ℕ → Option Action
read_action line =
    cond (same (field line 2) (bytes "accept")) (Some Accept)
    (cond (same (field line 2) (bytes "deny")) (Some Deny)
    None)

-- go on with the action, or with what is said if none reads
abbrev pub on_action : {R : Type 0} → Option Action → R → (Action → R) → R
on_action (Some a) unread go = go a
on_action None unread go = unread

-- the block in the fields from k on
unfoldable pub read_block : List ℕ → ℕ → Result Block FieldRefusal
read_block line k = on_spans (read_spans readers line k) Err (λ ss. Ok (block_from ss))

-- go on with the block, or stop at the refusal
abbrev pub on_block : {R : Type 0} → Result Block FieldRefusal → (FieldRefusal → R) → (Block → R) → R
on_block (Ok b) stop go = go b
on_block (Err r) stop go = stop r

-- What a `rule` and an `ask` line have in common ("the same five"), an action and a block: 4, then 13 where there is no room for one more,
-- then the fields from the left. Word and action stand before the block.
unfoldable pub read_record : Bool → List ℕ → Result Record FieldRefusal
read_record full line =
    cond (not (eqb (field_count line) (2 + sizes.field_count))) (Err (refused FieldCount 0))
    (cond full (Err (refused Full 0))
    (on_action (read_action line) (Err (refused ActionUnread 2)) (λ a.
    on_block (read_block line 3) Err (λ b.
    Ok (record { action = a; block = b })))))

-- go on with action and block, or stop at the refusal
abbrev pub on_record : {R : Type 0} → Result Record FieldRefusal → (FieldRefusal → R) → (Record → R) → R
on_record (Ok r) stop go = go r
on_record (Err r) stop go = stop r
