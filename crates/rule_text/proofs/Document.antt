-- Document 01's rule table, read; and the refusals of some texts, computed. Assumes nothing.
use mathlib.Core.List.{[], ◌∷◌, map}
use mathlib.Core.Path.{◌≡◌, refl}
use Prim.Native.Nat.{ℕ}
use Prim.Native.String.{String}
use lib.Count.{ones_in}
use Rattle.meaning.specs.Document as document
use Rattle.meaning.specs.Form as form
use Rattle.meaning.specs.Form.{table_of}
use Rattle.parts.specs.Words.{bytes}
use Rattle.sets.specs.Vocabulary.{rule_set_of, refused_of}
use Rattle.numbers.specs.Decimals.{decimal_of}
use Rattle.numbers.specs.Intervals.{interval_of}
use Rattle.addresses.specs.Addresses.{quad_of, prefix_of, masked_by, sized_by, address_of}
use Rattle.texts.specs.Texts.{refuse_text}
use Rattle.records.specs.Records.{read_action, read_block, read_record}
use Rattle.records.specs.Services.{protocol_of, port_of}
use Rattle.rule_text.specs.RuleTexts.{rule_record, rule_line, read_rules, rules_told}

abbrev rules_text : String
rules_text =
    "rule\taccept\t10.20.0.0/24\t10.30.0.4/31\t6\t8443\nrule\taccept\t10.20.0.9\t10.30.0.6\t6\t8443\nrule\tdeny\t10.20.0.0/24\t10.30.0.6\t6\t8443\n"

-- the rules of the whole run are those of which the twelve labels speak
pub document_rules_read : table_of (rule_set_of (rules_told (read_rules (bytes rules_text)))) ≡ document.rules
unfolding read_rules refuse_text rule_line rule_record read_record read_action read_block
    address_of sized_by masked_by prefix_of quad_of decimal_of ones_in protocol_of port_of interval_of
document_rules_read = refl

-- the paper's number, line and field of a refusal
abbrev refusal : ℕ → ℕ → ℕ → form.Refusal
refusal number line field = record { number = number; line = line; field = field }

pub document_rules_refused : map (λ (s : String). refused_of (read_rules (bytes s)))
    ("" ∷ rules_text ∷ "#" ∷ "#\n#" ∷ "#\n\n" ∷ " \n" ∷ "rule\n" ∷ "ask\tdeny\t*\t*\t*\t*\n" ∷ "\nrule\tdrop\t*\t*\t*\t*\n" ∷ "rule\tdeny\t*\t*\t*\t*\t\n"
    ∷ "rule\tdeny\t*\t*\t*\t*\r\n" ∷ "#\nrule\tdeny\t*\t1.0.0.1/8\t*\t*\n" ∷ "rule\tdeny\t*\t*\t6-5\t*\n" ∷ "rule\tdeny\t*\t*\t256\t*\nrule\n" ∷ [])
    ≡ (refusal 0 0 0 ∷ refusal 0 0 0 ∷ refusal 2 1 0 ∷ refusal 2 2 0 ∷ refusal 0 0 0 ∷ refusal 3 1 1 ∷ refusal 4 1 0 ∷ refusal 3 1 1 ∷ refusal 5 2 2
    ∷ refusal 4 1 0 ∷ refusal 9 1 6 ∷ refusal 7 2 4 ∷ refusal 10 1 5 ∷ refusal 8 1 5 ∷ [])
unfolding read_rules refuse_text rule_line rule_record read_record read_action read_block
    address_of sized_by masked_by prefix_of quad_of decimal_of ones_in protocol_of port_of interval_of
document_rules_refused = refl
