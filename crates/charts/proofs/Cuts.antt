-- The cuts of charted fields, and what is left at a strip: what has a span there that holds every number of the strip. Assumes nothing.
use mathlib.Core.Path.{◌≡◌, refl, sym, ap, ◌∙◌, subst}
use mathlib.Core.Bool.{Bool}
use mathlib.Core.List.{List, [], ◌∷◌, ◌++◌, map, append_assoc, append-nil}
use Prim.Native.Nat.{ℕ, suc, ◌+◌, ◌*◌, ◌≤◌, ◌<◌}
use native.Mathlib.Omega.{arith}
use lib.ListN.{length, get_or, length-append}
use lib.Seq.{get_or-take}
use Rattle.meaning.specs.Blocks.{Span, Block, within}
use Rattle.meaning.specs.Records.{Every}
use Rattle.meaning.specs.Strips as strips
use Rattle.meaning.specs.Strips.{Cut, place, sizes}
use Rattle.meaning.specs.Sizes.{field_count, mask_kinds}
use Rattle.layout.specs.Masks.{mask}
use Rattle.layout.proofs.MaskLaws.{mask_map}
use Rattle.strips.specs.Charts.{holding, masks_at, ChartedField}
use Rattle.bounds.specs.Spans.{InFront, spans_in}
use Rattle.bounds.proofs.BlockSpans.{span_of, spans_between}
use Rattle.strips.proofs.MaskLists.{rules_at, directives_at, exceptions_at}
use Rattle.places.proofs.PlacesCut.{places_cut}
use Rattle.strips.proofs.StripMasks.{holding_constant}
use Rattle.bounds.proofs.SpanLists.{spans_parts}
use Rattle.charts.specs.Charted.{FieldsCharted, charted_none, charted_more}

-- a field, cut at its places
abbrev pub field_cut : {numbers : List ℕ} {field n rules directives exceptions : ℕ} {masks places : List ℕ} {count : ℕ}
    → ChartedField numbers field n rules directives exceptions masks places count
    → Cut
field_cut {numbers} {field} {n} {rules} {directives} {exceptions} c =
    places_cut n (spans_in numbers field 0 (rules + directives + exceptions)) c.found.all c.found.are_places

module _ {numbers : List ℕ} {rules directives exceptions : ℕ} where
  -- the fields, cut at their places
  abbrev pub cuts_of : {field : ℕ} {ns masks places counts : List ℕ} → FieldsCharted numbers rules directives exceptions field ns masks places counts → List Cut
  cuts_of charted_none = []
  cuts_of (charted_more c long wide later) = field_cut c ∷ cuts_of later

  pub sizes_are : {field : ℕ} {ns masks places counts : List ℕ} (f : FieldsCharted numbers rules directives exceptions field ns masks places counts)
      → sizes (cuts_of f) ≡ ns
  sizes_are charted_none = refl
  sizes_are (charted_more {n} c long wide later) = ap (λ (ms : List ℕ). n ∷ ms) (sizes_are later)

  pub counts_are : {field : ℕ} {ns masks places counts : List ℕ} (f : FieldsCharted numbers rules directives exceptions field ns masks places counts)
      → strips.counts (cuts_of f) ≡ counts
  counts_are charted_none = refl
  counts_are (charted_more c long wide later) = λ i. sym c.found.counted i ∷ counts_are later i

-- the block's span in a field holds x
abbrev pub span_holds : ℕ → ℕ → Block → Bool
span_holds field x b = within (span_of field b) x

-- The blocks, of which the numbers have the bounds in front.
module _
    (numbers : List ℕ)
    (rs ds es : List Block)
    (shaped : Every (λ b. length b ≡ field_count) (rs ++ ds ++ es))
    (numbered : InFront (rs ++ ds ++ es) numbers)
  where
    part : (field : ℕ) → field < field_count → (before bs after : List Block) → rs ++ ds ++ es ≡ before ++ bs ++ after
        → spans_in numbers field (length before) (length bs) ≡ map (span_of field) bs
    part field h before bs after e =
        spans_between numbers field before bs after h (subst (Every (λ b. length b ≡ field_count)) e shaped)
        (subst (λ (all : List Block). InFront all numbers) e numbered)

    -- the spans of each kind of block
    rule_spans : (field : ℕ) → field < field_count → spans_in numbers field 0 (length rs) ≡ map (span_of field) rs
    rule_spans field h = part field h [] rs (ds ++ es) (append_assoc rs ds es)

    directive_spans : (field : ℕ) → field < field_count → spans_in numbers field (length rs) (length ds) ≡ map (span_of field) ds
    directive_spans field h = part field h rs ds es refl

    exception_spans : (field : ℕ) → field < field_count → spans_in numbers field (length rs + length ds) (length es) ≡ map (span_of field) es
    exception_spans field h =
        ap (λ (j : ℕ). spans_in numbers field j (length es)) (sym (length-append rs ds)) ∙ part field h (rs ++ ds) es [] (sym (append-nil (rs ++ ds ++ es)))

    -- A strip of a charted field, and a number x of the strip: the masks there are of the blocks whose span holds x.
    module _
        {field n count : ℕ}
        {masks places : List ℕ}
        (c : ChartedField numbers field n (length rs) (length ds) (length es) masks places count)
        (is_field : field < field_count)
        (i x : ℕ)
        (h : i < length c.found.all)
        (from : place (field_cut c) i ≤ x)
        (to : x < place (field_cut c) (suc i))
      where
        -- all spans of the field, and those of each kind
        abbrev ss : List Span
        ss = spans_in numbers field 0 (length rs + length ds + length es)

        abbrev of_rules : List Span
        of_rules = spans_in numbers field 0 (length rs)

        abbrev of_directives : List Span
        of_directives = spans_in numbers field (length rs) (length ds)

        abbrev of_exceptions : List Span
        of_exceptions = spans_in numbers field (length rs + length ds) (length es)

        -- the mask of some of the spans, at the strip's place and at x
        at_x : (ts before after : List Span) (bs : List Block) → ss ≡ before ++ ts ++ after → ts ≡ map (span_of field) bs
            → holding ts (get_or c.found.all i n) ≡ mask (span_holds field x) bs
        at_x ts before after bs e spans =
            holding_constant n ss c.found.all c.found.are_places i x h from to before ts after e
            ∙ ap (λ (us : List Span). holding us x) spans
            ∙ mask_map (λ (s : Span). within s x) (span_of field) bs

        -- the masks in front of the field's
        abbrev laid : List ℕ
        laid = masks_at of_rules of_directives of_exceptions c.found.all

        in_front : (j : ℕ) → j < mask_kinds * length c.found.all → get_or masks j 0 ≡ get_or laid j 0
        in_front j l =
            sym (get_or-take (mask_kinds * count) masks j 0 (omega (arith, c.found.counted))) ∙ ap (λ (ms : List ℕ). get_or ms j 0) c.masked

        parts : ss ≡ of_rules ++ of_directives ++ of_exceptions
        parts = spans_parts numbers field (length rs) (length ds) (length es)

        pub rule_mask : get_or masks (mask_kinds * i) 0 ≡ mask (span_holds field x) rs
        rule_mask =
            in_front (mask_kinds * i) (omega arith)
            ∙ rules_at of_rules of_directives of_exceptions c.found.all i n h
            ∙ at_x of_rules [] (of_directives ++ of_exceptions) rs
            (parts ∙ append_assoc of_rules of_directives of_exceptions)
            (rule_spans field is_field)

        pub directive_mask : get_or masks (mask_kinds * i + 1) 0 ≡ mask (span_holds field x) ds
        directive_mask =
            in_front (mask_kinds * i + 1) (omega arith)
            ∙ directives_at of_rules of_directives of_exceptions c.found.all i n h
            ∙ at_x of_directives of_rules of_exceptions ds parts
            (directive_spans field is_field)

        pub exception_mask : get_or masks (mask_kinds * i + 2) 0 ≡ mask (span_holds field x) es
        exception_mask =
            in_front (mask_kinds * i + 2) (omega arith)
            ∙ exceptions_at of_rules of_directives of_exceptions c.found.all i n h
            ∙ at_x of_exceptions (of_rules ++ of_directives) [] es
            (parts ∙ sym (append-nil (of_rules ++ of_directives ++ of_exceptions)))
            (exception_spans field is_field)
