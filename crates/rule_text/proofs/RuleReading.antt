-- Laws of the lines of a rule table, and of the loop over them. Assumes nothing.
use mathlib.Core.Bool.{Bool, true, false, cond}
use mathlib.Core.List.{List, [], ◌∷◌, ◌++◌}
use mathlib.Core.Path.{◌≡◌, refl, ap, sym, subst, ◌∙◌}
use native.Mathlib.Omega.{arith}
use Rattle.std.specs.Prelude.{Option, None, Some, Result, Ok, Err}
use Prim.Native.Nat.{ℕ, ◌≤◌, ◌<◌}
use borrow.Author.Tests.{leb-false}
use denote.Ref.{Bor}
use lib.Dec.{leb}
use lib.ListN.{length, length-append}
use Rattle.contracts.specs.Answers.{seen}
use Rattle.meaning.specs.Form.{most_rules}
use Rattle.parts.specs.Parts.{shown}
use Rattle.parts.specs.Words.{bytes}
use Rattle.sets.specs.Empty.{zero_rule}
use Rattle.sets.specs.Inner.{in_form}
use Rattle.sets.specs.Vocabulary.{rule_of}
use Rattle.sets.specs.Listed.{rule_set}
use Rattle.sets.specs.declared.Reason.TheVariants.{UnknownWord}
use Rattle.sets.specs.declared.Refusal.{Refusal}
use Rattle.sets.specs.declared.Rule.{Rule}
use Rattle.sets.specs.declared.Rules.{Rules}
use Rattle.sets.proofs.Padding.{padded_set, no_rules_lem}
use Rattle.lines.specs.Reader.{line_at, line_from, cursor_after, cursor_behind}
use Rattle.lines.specs.declared.Cursor.{Cursor}
use Rattle.lines.proofs.Stepping.{found_bytes, found_after}
use Rattle.texts.specs.Texts.{most_bytes, refusal, lines_of, Said, goes, stops, all_read, read_before, read_from, read_text}
use Rattle.texts.proofs.Reading.{Reading, begun, stepped, halted, finished, Alike, met}
use Rattle.records.specs.Readers.{refused}
use Rattle.records.specs.Records.{skipped, named, read_record, on_record}
use Rattle.records.specs.declared.FieldRefusal.{FieldRefusal}
use Rattle.records.specs.declared.Record.{Record}
use Rattle.records.proofs.Forming.{RecordInForm, read_record_in_form}
use Rattle.rule_text.specs.Inner.{rule_added, no_rules_read, line_said}
use Rattle.rule_text.specs.declared.RulesRead.{RulesRead}
use Rattle.rule_text.specs.RuleTexts.{rule_record, says, rule_line, on_rule_line, said_rule, all_rules, no_rules, read_rules}

-- a rule that a line says came where there was room for it, and is in form
abbrev pub SaidRight : ℕ → Result (Option Rule) FieldRefusal → Type 0
SaidRight count (Ok None) = Unit {0}
SaidRight count (Ok (Some r)) = (count < most_rules) × (in_form (rule_of r) ≡ true)
SaidRight count (Err r) = Unit {0}

pub said_right : (count : ℕ) (line : List ℕ) → SaidRight count (rule_line count line)
unfolding rule_line rule_record
said_right count line =
    go (skipped line) (named (bytes "rule") line) (read_record (leb most_rules count) line) (read_record_in_form (leb most_rules count) line)
  where
    go : (a b : Bool) (x : Result Record FieldRefusal) → RecordInForm (leb most_rules count) x
        → SaidRight count
        (cond a (Ok None) (cond b (says (on_record x Err (λ r. Ok (record { action = r.action; block = r.block })))) (Err (refused UnknownWord 1))))
    go true b x h = tt
    go false false x h = tt
    go false true (Err r) h = tt
    go false true (Ok r) h = (leb-false most_rules count h.0, h.1)

-- a rule that a line says has room
pub rule_has_room : (count : ℕ) (line : List ℕ) (r : Rule) → rule_line count line ≡ Ok (Some r) → count < most_rules
rule_has_room count line r e = (subst (SaidRight count) e (said_right count line)).0

-- an empty line says nothing
pub says_nothing : (rs : List Rule) → said_rule rs [] ≡ goes rs
unfolding rule_line
says_nothing rs = refl

-- a rule more in the set is a rule more in the list
added_is : (rs : List Rule) (r : Rule) → length rs < most_rules → rule_added (rule_set rs) r ≡ rule_set (rs ++ (r ∷ []))
added_is rs r h = λ i. record { count = sym (length-append rs (r ∷ [])) i; records = padded_set most_rules zero_rule rs r h i }

-- the set is that of the rules read so far, and reading stands at the cursor
pub record Read (t : List ℕ) (c : Cursor) (s : Rules) : Type 0 where
  pub rs : List Rule
  pub is : s ≡ rule_set rs
  pub reading : Reading said_rule all_rules no_rules [] t c.at c.line rs

pub read_none : (t : List ℕ) (s : Rules) → s ≡ rule_set [] → Read t (record { at = 0; line = 1 }) s
read_none t s e = record { rs = []; is = e; reading = begun said_rule all_rules no_rules [] t }

pub read_all : (t : List ℕ) (c : Cursor) (s : Rules) (h : Read t c s) → length t ≤ c.at
    → Ok s ≡ read_from said_rule all_rules no_rules 1 [] (lines_of t)
read_all t c s h out =
    ap Ok h.is
    ∙ sym (finished said_rule all_rules no_rules says_nothing [] t c.at c.line h.rs h.reading out)

-- one turn: the line that was found at the cursor says o
module _ (text : Bor (List ℕ)) (c : Cursor) (s : Rules) (h : Read text.now c s) (fits : length text.now ≤ most_bytes)
    (inside : c.at < length text.now) (line : Bor (List ℕ)) (found : seen line ≡ shown text (line_from text.now c.at))
    (o : Result (Option Rule) FieldRefusal) (said : o ≡ rule_line s.count line.now) where
  abbrev t : List ℕ
  t = text.now

  said_there : o ≡ rule_line s.count (line_at t c.at)
  said_there = said ∙ ap (rule_line s.count) (found_bytes text line c found)

  abbrev then : Result (Option Rule) FieldRefusal → Said (List Rule)
  then x = on_rule_line x (goes h.rs) (λ r. goes (h.rs ++ (r ∷ []))) stops

  reads : (o' : Result (Option Rule) FieldRefusal) → o ≡ o' → said_rule h.rs (line_at t c.at) ≡ then o'
  reads o' e = ap then (ap (λ (x : Rules). rule_line x.count (line_at t c.at)) (sym h.is) ∙ sym said_there ∙ e)

  pub has_room : (r : Rule) → o ≡ Ok (Some r) → s.count < most_rules
  has_room r e = rule_has_room s.count (line_at t c.at) r (sym said_there ∙ e)

  -- reading stands behind the line, which says these rules
  read_on : (c' : Cursor) → c' ≡ cursor_behind c (length line.now) → (rs : List Rule) → said_rule h.rs (line_at t c.at) ≡ goes rs
      → Reading said_rule all_rules no_rules [] t c'.at c'.line rs
  read_on c' p rs e =
      let moved : c' ≡ cursor_after t c = found_after text line c found inside (omega arith) c' p in
      stepped said_rule all_rules no_rules says_nothing [] t c.at c.line h.rs h.reading fits inside c' moved rs e

  pub read_skip : (c' : Cursor) → c' ≡ cursor_behind c (length line.now) → o ≡ Ok None → Read t c' s
  read_skip c' p e = record { rs = h.rs; is = h.is; reading = read_on c' p h.rs (reads (Ok None) e) }

  pub read_more : (c' : Cursor) (s' : Rules) (r : Rule) → c' ≡ cursor_behind c (length line.now) → s' ≡ rule_added s r → o ≡ Ok (Some r) → Read t c' s'
  read_more c' s' r p q e =
      let count : s.count ≡ length h.rs = ap (λ (x : Rules). x.count) h.is in
      record {
        rs = h.rs ++ (r ∷ []);
        is = q ∙ ap (λ (x : Rules). rule_added x r) h.is ∙ added_is h.rs r (omega (arith, has_room r e));
        reading = read_on c' p (h.rs ++ (r ∷ [])) (reads (Ok (Some r)) e);
      }

  pub read_stop : (r : FieldRefusal) → o ≡ Err r
      → read_from said_rule all_rules no_rules 1 [] (lines_of t) ≡ no_rules [] (refusal r.reason c.line r.field)
  read_stop r e = halted said_rule all_rules no_rules says_nothing [] t c.at c.line h.rs h.reading inside r.reason r.field (reads (Err r) e)

-- the set that a list of rules stands for is read as the list is
abbrev Stands : List Rule → RulesRead → Type 0
Stands rs read = read ≡ record { rules = rule_set rs }

said_alike : (rs : List Rule) (read : RulesRead) (line : List ℕ) → Stands rs read → Alike Stands (said_rule rs line) (line_said read line)
said_alike rs read line e =
    subst (λ (x : RulesRead). Alike Stands (said_rule rs line) (line_said x line)) (sym e)
    (go (rule_line (length rs) line) (said_right (length rs) line))
  where
    go : (o : Result (Option Rule) FieldRefusal) → SaidRight (length rs) o
        → Alike Stands (on_rule_line o (goes rs) (λ r. goes (rs ++ (r ∷ []))) stops)
        (on_rule_line o (goes (record { rules = rule_set rs })) (λ r. goes (record { rules = rule_added (rule_set rs) r })) stops)
    go (Ok None) h = refl
    go (Ok (Some r)) h = ap (λ (x : Rules). record { rules = x }) (added_is rs r h.0)
    go (Err r) h = (refl, refl)

-- the answer that hands back the set alone
abbrev pub set_alone : RulesRead × Result (Unit {0}) Refusal → Result Rules Refusal
set_alone (read, Ok u) = Ok read.rules
set_alone (read, Err r) = Err r

pub rules_met : (t : List ℕ) → read_rules t ≡ set_alone (read_text line_said all_read read_before no_rules_read t)
unfolding read_rules
rules_met t =
    met said_rule all_rules no_rules line_said all_read read_before Stands (λ (x : Result Rules Refusal) y. x ≡ set_alone y)
    said_alike (λ rs read e. ap (λ (x : RulesRead). Ok x.rules) (sym e)) (λ rs read r. refl)
    [] no_rules_read t (ap (λ (x : Rules). record { rules = x }) (sym no_rules_lem))
