-- No output is cut off, and document 01's run is printed as the paper has it. Assumes nothing.
use mathlib.Core.Path.{◌≡◌, refl, sym, ap, ◌∙◌, subst}
use mathlib.Core.List.{List, [], ◌∷◌, ◌++◌}
use Prim.Native.Nat.{ℕ, ◌+◌, ◌*◌, ◌≤◌}
use Prim.Native.String.{String}
use native.Mathlib.Decide.{ℕ_discrete}
use native.Mathlib.Omega.{arith}
use lib.Count.{ones_in}
use lib.ListN.{length, take, drop, length-append, length-take}
use lib.Seq.{sets-eq, take_at}
use Rattle.meaning.specs.Blocks.{inside}
use Rattle.meaning.specs.Document as document
use Rattle.meaning.specs.Fields.{fields}
use Rattle.meaning.specs.Form.{policy_of}
use Rattle.meaning.specs.Labels.{Label, kind, rule}
use Rattle.meaning.specs.Listings.{Listed, FaultListing}
use Rattle.meaning.specs.Policies as policies
use Rattle.meaning.specs.Rules.{Table}
use Rattle.meaning.specs.Verdicts.{VerdictOn}
use Rattle.meaning.proofs.Document.{run_blocks, run_verdict}
use Rattle.parts.specs.Words.{bytes}
use Rattle.sets.specs.declared.Policy.{Policy}
use Rattle.sets.specs.declared.Rules.{Rules}
use Rattle.sets.specs.Vocabulary.{refused_of, policy_set_of}
use Rattle.numbers.specs.Decimals.{decimal_of}
use Rattle.numbers.specs.Intervals.{interval_of}
use Rattle.addresses.specs.Addresses.{quad_of, prefix_of, masked_by, sized_by, address_of}
use Rattle.texts.specs.Texts.{refuse_text}
use Rattle.records.specs.Records.{read_action, read_block, read_record}
use Rattle.records.specs.Services.{protocol_of, port_of}
use Rattle.rule_text.specs.RuleTexts.{rule_record, rule_line, read_rules, rules_told}
use Rattle.rule_text.proofs.Document.{document_rules_read}
use Rattle.policy_text.specs.PolicyTexts.{but_fields, ask_line, but_line, policy_line, read_policy, policy_told}
use Rattle.policy_text.proofs.Document.{document_policy_read}
use Rattle.printing.specs.Lines.{verdict_line, blocks_line, block_line}
use Rattle.putting.specs.Spelling.{decimal, quad}
use Rattle.printing.proofs.Lengths.{most_block_line, block_line_few, blocks_line_few, verdict_line_few, refused_line_few, unreadable_line_few}
use Rattle.report.specs.Runs.{File, unreadable, holding, rules_name, policy_name, most_block_lines, most_output, block_lines, SetsPrinted, TextsPrinted, Printed, Reported}

block_lines_few : (bs : List (Listed Label)) → length (block_lines bs) ≤ most_block_line * length bs
block_lines_few [] = omega arith
block_lines_few (b ∷ bs) =
    let first = block_line (kind b.label) (rule b.label) b.block in
    omega (arith, length-append first (block_lines bs), block_line_few (kind b.label) (rule b.label) b.block, block_lines_few bs)

sets_fit : (rules : Rules) (policy : Policy) (text : List ℕ) → SetsPrinted rules policy text → length text ≤ most_output
sets_fit rules policy text p =
    let v = verdict_line p.verdict in
    let total = blocks_line (length p.blocks) in
    let shown = take most_block_lines p.blocks in
    omega (
      arith,
      ap length p.printed,
      length-append v (total ++ block_lines shown),
      length-append total (block_lines shown),
      verdict_line_few p.verdict,
      blocks_line_few (length p.blocks),
      block_lines_few shown,
      length-take most_block_lines p.blocks,
    )

texts_fit : (rules policy text : List ℕ) → TextsPrinted rules policy text → length text ≤ most_output
texts_fit rules policy text p =
    elim (ℕ_discrete (refused_of (read_rules rules)).number 0) [
      | yes none ↦ elim (ℕ_discrete (refused_of (read_policy policy)).number 0) [
        | yes zero ↦ sets_fit (rules_told (read_rules rules)) (policy_told (read_policy policy)) text (p.both_read none zero)
        | no some ↦ omega (arith, ap length (p.policy_refused none some), refused_line_few policy_name (refused_of (read_policy policy)))
      ]
      | no some ↦ omega (arith, ap length (p.rules_refused some), refused_line_few rules_name (refused_of (read_rules rules)))
    ]

-- No output is longer than 262,144 bytes.
pub output_fits : (rules policy : File) (text : List ℕ) → Printed rules policy text → length text ≤ most_output
output_fits unreadable policy text p = omega (arith, ap length p, unreadable_line_few rules_name)
output_fits (holding rules) unreadable text p = omega (arith, ap length p, unreadable_line_few policy_name)
output_fits (holding rules) (holding policy) text p = texts_fit rules policy text p

-- In a buffer with so much room the whole output stands in front, and its length is told.
pub report_whole : (rules policy : File) (before after : List ℕ) (end : ℕ) (r : Reported rules policy before after end) → most_output ≤ length before
    → (end ≡ length r.text) × (take end after ≡ r.text)
report_whole rules policy before after end r room =
    let few = output_fits rules policy r.text r.printed in
    let all : end ≡ length r.text = omega (arith, r.put.behind) in
    let within : 0 + length r.text ≤ length before = omega arith in (
      all,
      ap (take end) (r.put.stored ∙ sets-eq r.text before 0 within) ∙ take_at r.text (drop (0 + length r.text) before) end (sym all),
    )

-- Document 01's two texts, and what the paper says is printed for them
abbrev rules_text : String
rules_text =
    "rule\taccept\t10.20.0.0/24\t10.30.0.4/31\t6\t8443\nrule\taccept\t10.20.0.9\t10.30.0.6\t6\t8443\nrule\tdeny\t10.20.0.0/24\t10.30.0.6\t6\t8443\n"

abbrev policy_text : String
policy_text = "ask\taccept\t10.20.0.0/24\t10.30.0.4/30\t6\t8443\nbut\t10.20.0.0/24\t10.30.0.6\t6\t8443\n"

abbrev output : String
output =
    "verdict wrong 2 0 1 10.20.0.9 10.30.0.6 6 8443\nblocks 4\nblock 4 0 10.20.0.0 10.20.0.8 10.30.0.7 10.30.0.7 6 6 8443 8443\nblock 2 2 10.20.0.9 10.20.0.9 10.30.0.6 10.30.0.6 6 6 8443 8443\nblock 4 0 10.20.0.9 10.20.0.9 10.30.0.7 10.30.0.7 6 6 8443 8443\nblock 4 0 10.20.0.10 10.20.0.255 10.30.0.7 10.30.0.7 6 6 8443 8443\n"

rules_none : (refused_of (read_rules (bytes rules_text))).number ≡ 0
unfolding read_rules refuse_text rule_line rule_record read_record read_action read_block address_of sized_by masked_by prefix_of quad_of decimal_of ones_in protocol_of port_of interval_of
rules_none = refl

policy_none : (refused_of (read_policy (bytes policy_text))).number ≡ 0
unfolding read_policy refuse_text policy_line ask_line but_line but_fields inside read_record read_action read_block address_of sized_by masked_by prefix_of quad_of decimal_of ones_in protocol_of port_of interval_of
policy_none = refl

output_is : bytes output ≡ verdict_line document.verdict_line ++ (blocks_line 4 ++ block_lines document.block_lines)
unfolding verdict_line blocks_line block_line decimal quad kind rule
output_is = refl

-- The run of document 01 is printed byte for byte, and nothing else is.
pub document_run : Printed (holding (bytes rules_text)) (holding (bytes policy_text)) (bytes output)
document_run =
    record {
      rules_refused = λ some. absurd (some rules_none);
      policy_refused = λ none some. absurd (some policy_none);
      both_read = λ none zero. record {
        verdict = document.verdict_line;
        judged = subst (λ (t : Table). VerdictOn fields t (policy_of (policy_set_of (policy_told (read_policy (bytes policy_text))))) document.verdict_line) (sym document_rules_read)
            (subst (λ (q : policies.Policy). VerdictOn fields document.rules q document.verdict_line) (sym document_policy_read) run_verdict);
        blocks = document.block_lines;
        listed = subst (λ (t : Table). FaultListing fields t (policy_of (policy_set_of (policy_told (read_policy (bytes policy_text))))) document.block_lines) (sym document_rules_read)
            (subst (λ (q : policies.Policy). FaultListing fields document.rules q document.block_lines) (sym document_policy_read) run_blocks);
        printed = output_is;
      };
    }
