-- Document 01's policy, read; and the refusals of some texts, computed. Assumes nothing.
use mathlib.Core.List.{[], ◌∷◌, map}
use mathlib.Core.Path.{◌≡◌, refl}
use Prim.Native.Nat.{ℕ}
use Prim.Native.String.{String}
use lib.Count.{ones_in}
use Rattle.meaning.specs.Blocks.{inside}
use Rattle.meaning.specs.Document as document
use Rattle.meaning.specs.Form as form
use Rattle.meaning.specs.Form.{naming, directives_from, policy_of}
use Rattle.parts.specs.Words.{bytes}
use Rattle.sets.specs.Vocabulary.{policy_set_of, refused_of}
use Rattle.numbers.specs.Decimals.{decimal_of}
use Rattle.numbers.specs.Intervals.{interval_of}
use Rattle.addresses.specs.Addresses.{quad_of, prefix_of, masked_by, sized_by, address_of}
use Rattle.texts.specs.Texts.{refuse_text}
use Rattle.records.specs.Records.{read_action, read_block, read_record}
use Rattle.records.specs.Services.{protocol_of, port_of}
use Rattle.policy_text.specs.PolicyTexts.{but_fields, ask_line, but_line, policy_line, read_policy, policy_told}

abbrev policy_text : String
policy_text = "ask\taccept\t10.20.0.0/24\t10.30.0.4/30\t6\t8443\nbut\t10.20.0.0/24\t10.30.0.6\t6\t8443\n"

-- the policy of the whole run is the one of which the twelve labels speak
pub document_policy_read : policy_of (policy_set_of (policy_told (read_policy (bytes policy_text)))) ≡ document.policy
unfolding policy_of directives_from naming read_policy refuse_text policy_line ask_line but_line but_fields inside read_record read_action read_block
    address_of sized_by masked_by prefix_of quad_of decimal_of ones_in protocol_of port_of interval_of
document_policy_read = refl

-- the paper's number, line and field of a refusal
abbrev refusal : ℕ → ℕ → ℕ → form.Refusal
refusal number line field = record { number = number; line = line; field = field }

pub document_policy_refused : map (λ (s : String). refused_of (read_policy (bytes s)))
    ("" ∷ policy_text ∷ "#" ∷ "but\t*\t*\t*\t*\n" ∷ "but\t*\t*\t*\n" ∷ "but\t1\t2\t3\t*\n" ∷ "rule\tdeny\t*\t*\t*\t*\n"
    ∷ "ask\tdeny\t*\t*\t6\t*\n\nbut\t*\t*\t17\t*\n" ∷ "ask\tdeny\t*\t*\t6\t*\nbut\t*\t*\t17\t65536\n" ∷ "ask\tdeny\t*\t*\t6\t*\nbut\t*\t*\t6\t*\n"
    ∷ "ask\tdeny\t*\t*\t6\t*\nask\taccept\t*\t*\t17\t*\nbut\t*\t*\t6\t*\n"
    ∷ "ask\tdeny\t*\t*\t*\n" ∷ "ask\tdrop\t*\t*\t*\t*\n" ∷ "ask\tdeny\t*\t*\t*\t*\nbut\t*\t6\t*\t*\n" ∷ [])
    ≡ (refusal 0 0 0 ∷ refusal 0 0 0 ∷ refusal 2 1 0 ∷ refusal 11 1 0 ∷ refusal 4 1 0 ∷ refusal 11 1 0 ∷ refusal 3 1 1 ∷ refusal 12 3 0
    ∷ refusal 9 2 5 ∷ refusal 0 0 0 ∷ refusal 12 3 0
    ∷ refusal 4 1 0 ∷ refusal 5 1 2 ∷ refusal 6 2 3 ∷ [])
unfolding inside read_policy refuse_text policy_line ask_line but_line but_fields read_record read_action read_block
    address_of sized_by masked_by prefix_of quad_of decimal_of ones_in protocol_of port_of interval_of
document_policy_refused = refl
