-- What is left in a cell is what holds every packet of the cell. Assumes nothing.
use mathlib.Core.Path.{◌≡◌, refl, sym, ap, ◌∙◌, subst}
use mathlib.Core.Bool.{Bool, true, false, ◌&&◌}
use mathlib.Core.List.{List, [], ◌∷◌, ◌++◌, append_assoc, append-nil}
use Prim.Native.Nat.{ℕ, suc, ◌+◌, ◌*◌, ◌-◌, ◌^◌, ◌≤◌, ◌<◌}
use native.Mathlib.Nat.{mod-eq_of_lt}
use native.Mathlib.Omega.{arith}
use native.Mathlib.Numerals.{add-one}
use lib.Bits.{bit_and, and_comm, and_mask}
use lib.ListN.{length, get_or, drop, drop_of_length-le}
use lib.Pow.{pow_mono}
use lib.Seq.{drop-cons}
use Rattle.meaning.specs.Blocks.{Block, within, holds}
use Rattle.meaning.specs.Fields.{Packet}
use Rattle.meaning.specs.Records.{Every}
use Rattle.meaning.specs.Strips.{place, InCell, cell_none, cell_more}
use Rattle.meaning.specs.Sizes.{field_count, most_strips, mask_kinds, mask_digits, field_masks, front_words}
use Rattle.meaning.proofs.RecordsEvery.{every_weaker, every_between}
use Rattle.cells.specs.declared.Left.{Left}
use Rattle.cells.specs.Cells.{chart, spot, left_at, left_in}
use Rattle.layout.specs.Masks.{mask}
use Rattle.layout.proofs.MaskLaws.{mask_same, mask_and, mask_small}
use Rattle.strips.specs.Charts.{ChartedField}
use Rattle.bounds.specs.Spans.{InFront}
use Rattle.bounds.proofs.BlockSpans.{no_span, span_of}
use Rattle.charts.specs.Charted.{FieldsCharted, charted_none, charted_more}
use Rattle.charts.proofs.Parts.{PartsFrom, parts_here, parts_later}
use Rattle.charts.proofs.Cuts.{field_cut, cuts_of, span_holds, rule_mask, directive_mask, exception_mask}

-- everything is left: all digits are set
abbrev pub everything : Left
everything = record { rules = 2 ^ mask_digits - 1; directives = 2 ^ mask_digits - 1; exceptions = 2 ^ mask_digits - 1 }

module _ (rs ds es : List Block) where
  -- the blocks that pass a test are left
  abbrev pub left_by : (Block → Bool) → Left
  left_by test = record { rules = mask test rs; directives = mask test ds; exceptions = mask test es }

  -- s has, of the digits that there are blocks for, those of the blocks that pass a test
  record Covers (s : Left) (test : Block → Bool) : Type 0 where
    pub rules : (other : Block → Bool) → bit_and s.rules (mask other rs) ≡ mask (λ (b : Block). test b && other b) rs
    pub directives : (other : Block → Bool) → bit_and s.directives (mask other ds) ≡ mask (λ (b : Block). test b && other b) ds
    pub exceptions : (other : Block → Bool) → bit_and s.exceptions (mask other es) ≡ mask (λ (b : Block). test b && other b) es

  left_covers : (test : Block → Bool) → Covers (left_by test) test
  left_covers test = record { rules = λ f. mask_and test f rs; directives = λ f. mask_and test f ds; exceptions = λ f. mask_and test f es }

  all_covers : length rs ≤ mask_digits → length ds ≤ mask_digits → length es ≤ mask_digits → Covers everything (λ (b : Block). true)
  all_covers r d e = record { rules = λ f. full f rs r; directives = λ f. full f ds d; exceptions = λ f. full f es e }
    where
      full : (f : Block → Bool) (bs : List Block) → length bs ≤ mask_digits → bit_and (2 ^ mask_digits - 1) (mask f bs) ≡ mask f bs
      full f bs h =
          and_comm (2 ^ mask_digits - 1) (mask f bs) ∙ and_mask (mask f bs) mask_digits
          ∙ mod-eq_of_lt (omega (arith, mask_small f bs, pow_mono {i = length bs} {j = mask_digits} h))

-- tests that agree on blocks with a span for each field leave the same
module _ (rs ds es : List Block) (shaped : Every (λ b. length b ≡ field_count) (rs ++ ds ++ es)) where
  same_left : (test other : Block → Bool) → ((b : Block) → length b ≡ field_count → test b ≡ other b) → left_by rs ds es test ≡ left_by rs ds es other
  same_left test other each =
      λ i.
      record {
        rules = on [] rs (ds ++ es) (append_assoc rs ds es) i;
        directives = on rs ds es refl i;
        exceptions = on (rs ++ ds) es [] (sym (append-nil (rs ++ ds ++ es))) i;
      }
    where
      on : (before bs after : List Block) → rs ++ ds ++ es ≡ before ++ bs ++ after → mask test bs ≡ mask other bs
      on before bs after e = mask_same (every_weaker each (every_between before bs after (subst (Every (λ b. length b ≡ field_count)) e shaped)))

and_true : (a : Bool) → a ≡ (a && true)
and_true true = refl
and_true false = refl

and_assoc : (a b c : Bool) → (a && b && c) ≡ (a && (b && c))
and_assoc true b c = refl
and_assoc false b c = refl

-- The words have the masks of all fields behind the front words.
abbrev pub MasksBehind : List ℕ → List ℕ → Type 0
MasksBehind words masks = (j : ℕ) → get_or words (front_words + j) 0 ≡ get_or masks j 0

module _
    (numbers words counts all_masks_lem : List ℕ)
    (behind : MasksBehind words all_masks_lem)
    (rs ds es : List Block)
    (shaped : Every (λ b. length b ≡ field_count) (rs ++ ds ++ es))
    (numbered : InFront (rs ++ ds ++ es) numbers)
  where
    -- a block that holds the numbers from a field on, opened
    holds_on : (field x : ℕ) (q : Packet) (b : Block) → field < length b
        → holds (drop field b) (x ∷ q) ≡ (within (span_of field b) x && holds (drop (field + 1) b) q)
    unfolding holds
    holds_on field x q b h = rw (add-one field) (rw (drop-cons b field no_span h) refl)

    -- A strip of a charted field, a number x of the strip, and what is left before it.
    module _
        {field n count : ℕ}
        {masks places : List ℕ}
        (c : ChartedField numbers field n (length rs) (length ds) (length es) masks places count)
        (is_field : field < field_count)
        (long : length masks ≡ field_masks)
        (there : PartsFrom field_masks all_masks_lem field masks)
        (i x : ℕ)
        (h : i < length c.found.all)
        (from : place (field_cut c) i ≤ x)
        (to : x < place (field_cut c) (suc i))
        (s : Left)
        (test : Block → Bool)
        (covers : Covers rs ds es s test)
      where
        few : i < most_strips
        few = omega (arith, c.found.counted, c.found.few)

        -- the words of the strip are its masks
        word : (j : ℕ) → j < mask_kinds → get_or words (spot field i + j) 0 ≡ get_or masks (mask_kinds * i + j) 0
        word j l =
            let at : spot field i + j ≡ front_words + (field_masks * field + (mask_kinds * i + j)) = omega arith in
            ap (λ (k : ℕ). get_or words k 0) at
            ∙ behind (field_masks * field + (mask_kinds * i + j))
            ∙ there (mask_kinds * i + j) (omega (arith, few))

        first_word : get_or words (spot field i) 0 ≡ get_or masks (mask_kinds * i) 0
        first_word =
            let none : spot field i ≡ spot field i + 0 = omega arith in
            let first : mask_kinds * i + 0 ≡ mask_kinds * i = omega arith in
            ap (λ (k : ℕ). get_or words k 0) none ∙ word 0 (omega arith) ∙ ap (λ (k : ℕ). get_or masks k 0) first

        -- what is left at the strip is what has a span that holds x
        left_at_strip : left_at words field i s ≡ left_by rs ds es (λ (b : Block). test b && span_holds field x b)
        unfolding left_at
        left_at_strip =
            let rules_at = first_word ∙ rule_mask numbers rs ds es shaped numbered c is_field i x h from to in
            let directives_at = word 1 (omega arith) ∙ directive_mask numbers rs ds es shaped numbered c is_field i x h from to in
            let exceptions_at = word 2 (omega arith) ∙ exception_mask numbers rs ds es shaped numbered c is_field i x h from to in
            λ t.
            record {
              rules = (ap (bit_and s.rules) rules_at ∙ covers.rules (span_holds field x)) t;
              directives = (ap (bit_and s.directives) directives_at ∙ covers.directives (span_holds field x)) t;
              exceptions = (ap (bit_and s.exceptions) exceptions_at ∙ covers.exceptions (span_holds field x)) t;
            }

        -- the span of the field, then those of the later fields
        opened : (q : Packet) (b : Block) → length b ≡ field_count
            → (test b && span_holds field x b && holds (drop (field + 1) b) q) ≡ (test b && holds (drop field b) (x ∷ q))
        opened q b l =
            and_assoc (test b) (within (span_of field b) x) (holds (drop (field + 1) b) q)
            ∙ ap (λ (t : Bool). test b && t) (sym (holds_on field x q b (omega arith)))

        -- and then at all strips of the later fields
        left_on : (cell : List ℕ) (q : Packet)
            → (left_in (chart words counts) (field + 1) (left_by rs ds es (λ (b : Block). test b && span_holds field x b)) cell
            ≡ left_by rs ds es (λ (b : Block). test b && span_holds field x b && holds (drop (field + 1) b) q))
            → left_in (chart words counts) field s (i ∷ cell) ≡ left_by rs ds es (λ (b : Block). test b && holds (drop field b) (x ∷ q))
        left_on cell q rest =
            ap (λ (t : Left). left_in (chart words counts) (field + 1) t cell) left_at_strip
            ∙ rest
            ∙ same_left rs ds es shaped (λ (b : Block). test b && span_holds field x b && holds (drop (field + 1) b) q)
            (λ (b : Block). test b && holds (drop field b) (x ∷ q)) (opened q)

    -- all strips from a field on
    left_in_cell : {field : ℕ} {ns masks places some : List ℕ} (f : FieldsCharted numbers (length rs) (length ds) (length es) field ns masks places some)
        → field + length ns ≡ field_count
        → PartsFrom field_masks all_masks_lem field masks
        → {cell : List ℕ} {q : Packet}
        → InCell (cuts_of f) cell q
        → (test : Block → Bool)
        → left_in (chart words counts) field (left_by rs ds es test) cell ≡ left_by rs ds es (λ (b : Block). test b && holds (drop field b) q)
    unfolding holds
    left_in_cell {field} charted_none e there cell_none test =
        same_left rs ds es shaped test (λ (b : Block). test b && holds (drop field b) [])
        (λ b l. and_true (test b) ∙ ap (λ (c : Block). test b && holds c []) (sym (drop_of_length-le b {i = field} (omega arith))))
    left_in_cell {field} (charted_more {masks} {more_masks} c long wide later) e there (cell_more {i} {x} {cell} {p = q} h from to s) test =
        let here = parts_here field_masks all_masks_lem field masks more_masks there in
        let behind_it = parts_later field_masks all_masks_lem field masks more_masks there long in
        let rest = left_in_cell later (omega arith) behind_it s (λ (b : Block). test b && span_holds field x b) in
        left_on c (omega arith) long here i x h from to (left_by rs ds es test) test (left_covers rs ds es test) cell q rest

    -- from the first field on, where everything is left
    pub left_in_all : {n : ℕ} {ns masks places some : List ℕ} (f : FieldsCharted numbers (length rs) (length ds) (length es) 0 (n ∷ ns) masks places some)
        → length (n ∷ ns) ≡ field_count
        → length rs ≤ mask_digits
        → length ds ≤ mask_digits
        → length es ≤ mask_digits
        → PartsFrom field_masks all_masks_lem 0 masks
        → {cell : List ℕ} {q : Packet}
        → InCell (cuts_of f) cell q
        → left_in (chart words counts) 0 everything cell ≡ left_by rs ds es (λ (b : Block). holds b q)
    left_in_all (charted_more {masks} {more_masks} c long wide later) e few_rs few_ds few_es there (cell_more {i} {x} {cell} {p = q} h from to s) =
        let here = parts_here field_masks all_masks_lem 0 masks more_masks there in
        let behind_it = parts_later field_masks all_masks_lem 0 masks more_masks there long in
        let rest = left_in_cell later (omega arith) behind_it s (λ (b : Block). true && span_holds 0 x b) in
        left_on c (omega arith) long here i x h from to everything (λ (b : Block). true) (all_covers rs ds es few_rs few_ds few_es) cell q rest
