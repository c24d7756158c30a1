-- The label of a cell of a chart is the label of every packet in the cell. Assumes nothing.
use mathlib.Core.Path.{◌≡◌, refl, sym, ap, ◌∙◌, subst}
use mathlib.Core.List.{List, ◌++◌}
use Prim.Native.Nat.{ℕ, ◌+◌, ◌≤◌}
use native.Mathlib.Omega.{arith}
use lib.ListN.{length, get_or, length-map, get_or-append}
use lib.Seq.{get_or-append-add}
use Rattle.meaning.specs.Blocks.{Block, holds}
use Rattle.meaning.specs.Fields as meant
use Rattle.meaning.specs.Form as form
use Rattle.meaning.specs.Labels.{label}
use Rattle.meaning.specs.Rules as rules
use Rattle.meaning.specs.Strips.{Cut, ByCells, InCell}
use Rattle.meaning.specs.Sizes.{mask_digits, first_owner, front_words, field_masks, accepting_rules, accepting_directives, of_accepting, of_denying}
use Rattle.sets.specs.declared.Policy.{Policy}
use Rattle.sets.specs.declared.Rules.{Rules}
use Rattle.sets.specs.Vocabulary.{policy_set_of}
use Rattle.cells.specs.Cells.{chart, left_in, left_label, cell_label}
use Rattle.cells.specs.Words.{WordsOf}
use Rattle.layout.proofs.MaskLaws.{mask_map}
use Rattle.cells.proofs.PacketLabels.{left_at_packet, packet_label}
use Rattle.bounds.specs.SetBlocks.{rules_of, rule_blocks, directive_blocks, exception_blocks, Limited}
use Rattle.charts.specs.Charted.{FieldsCharted, Charted}
use Rattle.sets.specs.Inner.{directives_of, exceptions_of}
use Rattle.bounds.proofs.Counted.{all_shaped}
use Rattle.charts.proofs.Cuts.{cuts_of}
use Rattle.charts.proofs.Lefts.{everything, left_by, MasksBehind, left_in_all}
use Rattle.charts.proofs.Parts.{parts_all}

-- the first words are what they are in front
words_in_front : (rs ds : List rules.Rule) (es : List form.Exception) (front masks : List ℕ)
    → length front ≡ front_words
    → length ds ≤ mask_digits
    → WordsOf rs ds es front
    → WordsOf rs ds es (front ++ masks)
words_in_front rs ds es front masks long few w =
    record {
      accepting_rules_word = get_or-append front masks 0 accepting_rules (omega arith) ∙ w.accepting_rules_word;
      accepting_directives_word = get_or-append front masks 0 accepting_directives (omega arith) ∙ w.accepting_directives_word;
      of_accepting_word = get_or-append front masks 0 of_accepting (omega arith) ∙ w.of_accepting_word;
      of_denying_word = get_or-append front masks 0 of_denying (omega arith) ∙ w.of_denying_word;
      of_each = λ t h. get_or-append front masks 0 (first_owner + t) (omega arith) ∙ w.of_each t h;
    }

module _ {r : Rules} {p : Policy} {words counts places : List ℕ} (limited : Limited r p) (c : Charted r p words counts places) where
  -- the fields' charts, for so many rules, directives and exceptions
  abbrev ChartedFor : ℕ → ℕ → ℕ → Type 0
  ChartedFor n d e = FieldsCharted c.numbers n d e 0 meant.fields c.masks places counts

  -- the fields' charts, by the numbers of blocks
  abbrev pub fields_charted : FieldsCharted c.numbers (length (rule_blocks r)) (length (directive_blocks p)) (length (exception_blocks p)) 0
      meant.fields c.masks places counts
  fields_charted =
      subst (λ (e : ℕ). ChartedFor (length (rule_blocks r)) (length (directive_blocks p)) e) (sym c.counted.exceptions)
      (subst (λ (d : ℕ). ChartedFor (length (rule_blocks r)) d p.exception_count) (sym c.counted.directives)
      (subst (λ (n : ℕ). ChartedFor n p.directive_count p.exception_count) (sym c.counted.rules) c.each_field))

  -- the fields, cut at the places of the sets
  abbrev pub cuts : List Cut
  cuts = cuts_of fields_charted

  -- the masks stand behind the front
  behind : MasksBehind words c.masks
  behind j =
      ap (λ (ws : List ℕ). get_or ws (front_words + j) 0) c.words_are
      ∙ ap (λ (k : ℕ). get_or (c.front ++ c.masks) (k + j) 0) (sym c.front_long)
      ∙ get_or-append-add c.front c.masks j 0

  -- what holds a packet, by blocks and by records
  by_records : (q : meant.Packet)
      → left_by (rule_blocks r) (directive_blocks p) (exception_blocks p) (λ (b : Block). holds b q)
      ≡ left_at_packet (rules_of r) (directives_of p) (exceptions_of p) q
  by_records q =
      λ i.
      record {
        rules = mask_map (λ (b : Block). holds b q) (λ (x : rules.Rule). x.block) (rules_of r) i;
        directives = mask_map (λ (b : Block). holds b q) (λ (x : rules.Rule). x.block) (directives_of p) i;
        exceptions = mask_map (λ (b : Block). holds b q) (λ (x : form.Exception). x.block) (exceptions_of p) i;
      }

  few_rules : length (rule_blocks r) ≤ mask_digits
  few_rules = omega (arith, c.counted.rules, limited.few_rules)

  few_directives : length (directive_blocks p) ≤ mask_digits
  few_directives = omega (arith, c.counted.directives, limited.few_directives)

  few_exceptions : length (exception_blocks p) ≤ mask_digits
  few_exceptions = omega (arith, c.counted.exceptions, limited.few_exceptions)

  rules_few : length (rules_of r) ≤ mask_digits
  rules_few = omega (arith, few_rules, length-map (rules_of r) (λ (x : rules.Rule). x.block))

  directives_few : length (directives_of p) ≤ mask_digits
  directives_few = omega (arith, few_directives, length-map (directives_of p) (λ (x : rules.Rule). x.block))

  -- the words in front are those of the sets
  words_of_front : WordsOf (rules_of r) (directives_of p) (exceptions_of p) words
  words_of_front =
      subst (WordsOf (rules_of r) (directives_of p) (exceptions_of p)) (sym c.words_are)
      (words_in_front (rules_of r) (directives_of p) (exceptions_of p) c.front c.masks c.front_long directives_few c.words_of_front)

  -- what is left in a cell holds each packet of it
  left_in_cell : {cell : List ℕ} {q : meant.Packet}
      → InCell cuts cell q
      → left_in (chart words counts) 0 everything cell ≡ left_by (rule_blocks r) (directive_blocks p) (exception_blocks p) (λ (b : Block). holds b q)
  left_in_cell lies =
      left_in_all c.numbers words counts c.masks behind (rule_blocks r) (directive_blocks p) (exception_blocks p) (all_shaped r p) c.numbered
      fields_charted refl few_rules few_directives few_exceptions (parts_all field_masks c.masks) lies

  pub cell_labels : ByCells cuts (cell_label (chart words counts) 0 everything) (label (rules_of r) (form.policy_of (policy_set_of p)))
  unfolding form.policy_of
  cell_labels cell q lies =
      sym
      (ap (left_label words) (left_in_cell lies ∙ by_records q)
      ∙ packet_label (rules_of r) (directives_of p) (exceptions_of p) words q rules_few directives_few words_of_front)
