-- "Rule table: `rule`, action, source, destination, protocol, port."
use Rattle.std.specs.Prelude.{cond, List, [], ◌∷◌, ◌++◌, ℕ, leb, length, Option, None, Some, Result, Ok, Err}
use Rattle.meaning.specs.Form.{most_rules}
use Rattle.parts.specs.Words.{bytes}
use Rattle.sets.specs.Empty.{empty_rules}
use Rattle.sets.specs.Listed.{rule_set}
use Rattle.sets.specs.Vocabulary.{told_or}
use Rattle.sets.specs.declared.Reason.TheVariants.{UnknownWord}
use Rattle.sets.specs.declared.Reason.{Reason}
use Rattle.sets.specs.declared.Refusal.{Refusal}
use Rattle.sets.specs.declared.Rule.{Rule}
use Rattle.sets.specs.declared.Rules.{Rules}
use Rattle.texts.specs.Texts.{Said, goes, stops, read_text}
use Rattle.records.specs.Readers.{refused}
use Rattle.records.specs.Records.{skipped, named, read_record, on_record}
use Rattle.records.specs.declared.FieldRefusal.{FieldRefusal}

-- a `rule` line, after so many rules
unfoldable pub rule_record : ℕ → List ℕ → Result Rule FieldRefusal
rule_record count line = on_record (read_record (leb most_rules count) line) Err (λ r. Ok (record { action = r.action; block = r.block }))

-- what the line of a rule says: that rule, or its refusal
abbrev pub says : Result Rule FieldRefusal → Result (Option Rule) FieldRefusal
says (Ok r) = Ok (Some r)
says (Err r) = Err r

-- what a line says, after so many rules
unfoldable pub rule_line : ℕ → List ℕ → Result (Option Rule) FieldRefusal
rule_line count line =
    cond (skipped line) (Ok None)
    (cond (named (bytes "rule") line) (says (rule_record count line))
    (Err (refused UnknownWord 1)))

-- by what the line says: nothing, a rule, a refusal
abbrev pub on_rule_line : {R : Type 0} → Result (Option Rule) FieldRefusal → R → (Rule → R) → (Reason → ℕ → R) → R
on_rule_line (Ok None) skip go stop = skip
on_rule_line (Ok (Some r)) skip go stop = go r
on_rule_line (Err r) skip go stop = stop r.reason r.field

-- the rules read so far, and what a line makes of them
abbrev pub said_rule : List Rule → List ℕ → Said (List Rule)
said_rule rs line = on_rule_line (rule_line (length rs) line) (goes rs) (λ r. goes (rs ++ (r ∷ []))) stops

-- all lines are read: the set of the rules
abbrev pub all_rules : List Rule → Result Rules Refusal
all_rules rs = Ok (rule_set rs)

-- the answer to a refusal; "A refused reading hands back the empty set, all records zero", which is what stands beside it (`rules_told`)
abbrev pub no_rules : List Rule → Refusal → Result Rules Refusal
no_rules rs r = Err r

-- what a rule text means
unfoldable pub read_rules : List ℕ → Result Rules Refusal
read_rules text = read_text said_rule all_rules no_rules [] text

-- the set that a reading hands back: that of the rules, or the empty one beside a refusal
abbrev pub rules_told : Result Rules Refusal → Rules
rules_told = told_or empty_rules
