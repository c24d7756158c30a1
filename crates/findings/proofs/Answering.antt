-- From the chart of sets within their limits to the verdict and the listing over all packets. Assumes nothing.
use mathlib.Core.Path.{◌≡◌, refl, sym, ap, ◌∙◌, subst}
use mathlib.Core.List.{List, [], ◌∷◌, map}
use Prim.Native.Nat.{ℕ, zero, suc, ◌≤◌, ◌<◌}
use native.Mathlib.Omega.{arith}
use Rattle.std.specs.Prelude.{Option, Some}
use Rattle.std.specs.Option.{unwrap_or}
use lib.ListN.{length, length-map, length-append}
use Rattle.meaning.specs.Buffers as buffers
use Rattle.meaning.specs.Fields.{Packet, InRange, fields}
use Rattle.meaning.specs.Form as form
use Rattle.meaning.specs.Labels.{Label, good, kind, rule}
use Rattle.meaning.specs.Rules as table
use Rattle.meaning.specs.Rules.{Action, accept, deny}
use Rattle.meaning.specs.Listings as listings
use Rattle.meaning.specs.Policies.{lowest_asking}
use Rattle.meaning.specs.Records.{Every, every_none, every_more}
use Rattle.meaning.specs.Strips as strips
use Rattle.meaning.specs.Strips.{sizes, corner, ByCells, lift}
use Rattle.meaning.specs.Verdicts.{verdict_at, conforms}
use Rattle.meaning.specs.Sizes.{field_count, field_places, good_rank}
use Rattle.meaning.specs.Form.{most_rules}
use Rattle.meaning.proofs.LabelCases.{label_numbered}
use Rattle.meaning.proofs.LabelKinds.{Numbered}
use Rattle.meaning.proofs.ListingForm.{InForm, listing_in_form}
use Rattle.meaning.proofs.StripCells.{cell_of, cell_in_range, corner_in_cell}
use Rattle.meaning.proofs.StripListing.{listing_lifts}
use Rattle.meaning.proofs.StripVerdict.{first_lifts}
use Rattle.meaning.proofs.VerdictRanks.{rank, FirstOf, first_is_verdict, none_below_good_conforms, good_ranks}
use Rattle.blocks.specs.declared.Packet as blocks
use Rattle.blocks.specs.Vocabulary.{packet_of}
use Rattle.sets.specs.declared.Policy.{Policy}
use Rattle.sets.specs.declared.Rules.{Rules}
use Rattle.sets.specs.Vocabulary.{rule_set_of, policy_set_of}
use Rattle.cells.specs.Cells.{chart, Formed, cell_label}
use Rattle.lister.specs.Rows.{row_of, rows_from}
use Rattle.lister.specs.Runs.{Placed, blocks_below}
use Rattle.lister.proofs.Few.{blocks_few}
use Rattle.lister.proofs.Listing.{blocks_listed}
use Rattle.lister.proofs.Written.{rows_written}
use Rattle.judge.specs.Ranks.{cell_rank, FirstBelow}
use Rattle.labels.specs.Answers.{number_told}
use Rattle.bounds.specs.SetBlocks.{Limited, rules_of}
use Rattle.charts.specs.Charted.{Charted}
use Rattle.charts.proofs.CellLabels.{fields_charted, cuts, cell_labels}
use Rattle.charts.proofs.Corners.{corner_charted}
use Rattle.charts.proofs.Cuts.{sizes_are, counts_are}
use Rattle.charts.proofs.FieldCharts.{charts_long}
use Rattle.charts.proofs.Lefts.{everything}
use Rattle.charts.proofs.Parts.{parts_all}
use Rattle.findings.specs.Found.{label_at, verdict_of, AtFault, VerdictFor, ListingFor, ListingTold}
use Rattle.findings.specs.Inner.{IsVerdictAt, CornerPlaced, corner_at}
use Rattle.findings.specs.declared.Finding.{Finding}
use Rattle.findings.proofs.Corners.{charts_placed, corner_placed, stretch_charted}

-- a number told is had back, and is not 0
told_back : (n : ℕ) → unwrap_or (number_told n) 0 ≡ n
told_back zero = refl
told_back (suc n) = refl

told_some : (n : ℕ) → ¬ (number_told n ≡ Some 0)
told_some zero e = cc
told_some (suc n) e = cc

module _ {rules : Rules} {policy : Policy} {words counts places : List ℕ} (limited : Limited rules policy) (c : Charted rules policy words counts places) where
  -- which directives ask at a packet
  abbrev asking : Action → Packet → ℕ
  asking = lowest_asking (form.policy_of (policy_set_of policy))

  cut_sizes : sizes (cuts limited c) ≡ fields
  cut_sizes = sizes_are (fields_charted limited c)

  cut_counts : strips.counts (cuts limited c) ≡ counts
  cut_counts = counts_are (fields_charted limited c)

  -- the walks can use the chart
  pub chart_formed : Formed (chart words counts)
  chart_formed =
      let w = charts_long (fields_charted limited c) in
      let behind = ap length c.words_are ∙ length-append c.front c.masks in
      record { long = behind ∙ omega (arith, c.front_long, w.long_masks, w.long_counts); few = w.few }

  pub all_counts : length counts ≡ field_count
  all_counts = (charts_long (fields_charted limited c)).long_counts

  pub places_placed : Placed counts places
  places_placed = charts_placed (fields_charted limited c)

  -- no rule has a number above the limit
  numbered : (q : Packet) → InRange fields q → Numbered most_rules (label_at rules policy q)
  numbered q i blames =
      let w = label_numbered (form.table_of (rule_set_of rules)) (form.policy_of (policy_set_of policy)) q blames in
      (w.0, omega (arith, w.1, c.counted.rules, limited.few_rules, length-map (rules_of rules) (λ (r : table.Rule). r.block)))

  -- the rank of a cell, and that of a packet
  abbrev cell_rank_lem : List ℕ → ℕ
  cell_rank_lem = cell_rank (chart words counts) 0 everything

  abbrev packet_rank : Packet → ℕ
  packet_rank = λ (q : Packet). rank most_rules (label_at rules policy q)

  -- the ranks of cells are the ranks of their packets
  cell_ranks : ByCells (cuts limited c) cell_rank_lem packet_rank
  cell_ranks cell q lies = ap (rank most_rules) (cell_labels limited c cell q lies)

  -- no cell is below good: the table conforms
  pub none_found : ((cell : List ℕ) → InRange counts cell → good_rank ≤ cell_rank (chart words counts) 0 everything cell)
      → VerdictFor rules policy (conforms fields)
  none_found all = none_below_good_conforms fields (label_at rules policy) asking most_rules numbered not_below
    where
      not_below : (q : Packet) → InRange fields q → good_rank ≤ packet_rank q
      not_below q i =
          let w = cell_of (cuts limited c) (subst (λ (ns : List ℕ). InRange ns q) (sym cut_sizes) i) in
          let in_range = subst (λ (ns : List ℕ). InRange ns w.cell) cut_counts (cell_in_range w.lies) in
          omega (arith, cell_ranks w.cell q w.lies, all w.cell in_range)

  module _ (cell : List ℕ) (o : FirstOf counts (cell_rank (chart words counts) 0 everything) cell) where
    pub cell_placed : CornerPlaced places cell
    cell_placed = corner_placed (fields_charted limited c) o.in_range

    corner_is : corner_at places cell ≡ corner (cuts limited c) cell
    corner_is = sym (corner_charted places (fields_charted limited c) (parts_all field_places places) o.in_range)

    first_packet : FirstOf fields packet_rank (corner_at places cell)
    first_packet =
        let first_cell = subst (λ (ns : List ℕ). FirstOf ns cell_rank_lem cell) (sym cut_counts) o in
        let lifted = first_lifts (cuts limited c) cell_rank_lem packet_rank cell_ranks cell first_cell in
        subst (FirstOf fields packet_rank) (sym corner_is) (subst (λ (ns : List ℕ). FirstOf ns packet_rank (corner (cuts limited c) cell)) cut_sizes lifted)

    -- the corner's rank is the cell's
    corner_rank : packet_rank (corner_at places cell) ≡ cell_rank_lem cell
    corner_rank =
        let in_Cell = corner_in_cell (cuts limited c) (subst (λ (ns : List ℕ). InRange ns cell) (sym cut_counts) o.in_range) in
        ap packet_rank corner_is ∙ cell_ranks cell (corner (cuts limited c) cell) in_Cell

    -- the label there is not good
    corner_at_fault : cell_rank (chart words counts) 0 everything cell < good_rank → ¬ (label_at rules policy (corner_at places cell) ≡ good)
    corner_at_fault less e = omega (arith, corner_rank, good_ranks most_rules (label_at rules policy (corner_at places cell)) e)

    -- the verdict is the answer at the corner of the best cell
    cell_found : cell_rank (chart words counts) 0 everything cell < good_rank
        → VerdictFor rules policy (verdict_at (label_at rules policy) asking (corner_at places cell))
    cell_found less =
        first_is_verdict fields (label_at rules policy) asking most_rules numbered (corner_at places cell) first_packet (corner_at_fault less)

  -- the listing over cells is, stretched, the listing
  abbrev listed_cells : List (listings.Listed Label)
  listed_cells = blocks_below (chart words counts) 0 everything

  -- the listing over packets
  abbrev listed_blocks : List (listings.Listed Label)
  listed_blocks = map (lift (cuts limited c)) listed_cells

  is_listing : ListingFor rules policy listed_blocks
  is_listing =
      let cell_label_lem = cell_label (chart words counts) 0 everything in
      let listed = blocks_listed (chart words counts) 0 everything in
      let by_counts = subst (λ (ns : List ℕ). listings.Listing good ns cell_label_lem listed_cells) (sym cut_counts) listed in
      subst (λ (ns : List ℕ). listings.Listing good ns (label_at rules policy) listed_blocks) cut_sizes
      (listing_lifts good (cuts limited c) cell_label_lem (label_at rules policy) listed_cells (cell_labels limited c) by_counts)

  -- its rows are those that are written
  same_rows : {bs : List (listings.Listed Label)} → Every (InForm counts) bs
      → map (row_of places 0 []) bs ≡ map buffers.row (map (lift (cuts limited c)) bs)
  unfolding buffers.row
  same_rows every_none = refl
  same_rows (every_more {x = b} t later) =
      let stretched_is = stretch_charted places (fields_charted limited c) (parts_all field_places places) b.block t in
      λ i. (kind b.label ∷ rule b.label ∷ buffers.bounds (stretched_is i)) ∷ same_rows later i

  pub listing_told : (before after : List ℕ) (total : ℕ)
      → total ≡ length listed_cells
      → after ≡ rows_from before 0 (map (row_of places 0 []) listed_cells)
      → ListingTold rules policy before after total
  listing_told before after total t a =
      let cells_listed = blocks_listed (chart words counts) 0 everything in
      let cells_formed = listing_in_form good counts (cell_label (chart words counts) 0 everything) listed_cells cells_listed in
      let blocks_formed = listing_in_form good fields (label_at rules policy) listed_blocks is_listing in
      record {
        blocks = listed_blocks;
        listed = is_listing;
        counted = t ∙ sym (length-map listed_cells (lift (cuts limited c)));
        few = omega (arith, t, blocks_few (chart words counts) everything all_counts chart_formed);
        written = a ∙ ap (rows_from before 0) (same_rows cells_formed) ∙ rows_written before listed_blocks blocks_formed;
      }

  -- by the best cell, of which the corner is the packet of the finding
  module _ (cell : List ℕ) (n : ℕ) (best : FirstBelow counts (cell_rank (chart words counts) 0 everything) good_rank n cell) where
    less : cell_rank (chart words counts) 0 everything cell < good_rank
    less = omega (arith, best.is_rank, best.is_below)

    pub placed_right : CornerPlaced places cell
    placed_right = cell_placed cell best.first_of

    module _ (packet : blocks.Packet) (r : Finding) (at : packet_of packet ≡ corner_at places cell) (v : IsVerdictAt rules policy packet r) where
      -- the verdict told is the one at the packet
      told : verdict_of (Some r) ≡ verdict_at (label_at rules policy) asking (packet_of packet)
      told i =
          record {
            label = v.label i;
            accept_directive = (ap (λ (o : Option ℕ). unwrap_or o 0) v.accept_directive ∙ told_back (asking accept (packet_of packet))) i;
            deny_directive = (ap (λ (o : Option ℕ). unwrap_or o 0) v.deny_directive ∙ told_back (asking deny (packet_of packet))) i;
            packet = packet_of (v.at i);
          }

      pub found_right : VerdictFor rules policy (verdict_of (Some r))
      found_right =
          subst (VerdictFor rules policy) (ap (verdict_at (label_at rules policy) asking) (sym at) ∙ sym told) (cell_found cell best.first_of less)

      pub found_at_fault : AtFault r
      found_at_fault =
          record {
            label = λ e. corner_at_fault cell best.first_of less (ap (label_at rules policy) (sym at) ∙ sym v.label ∙ e);
            accept_directive = λ e. told_some (asking accept (packet_of packet)) (sym v.accept_directive ∙ e);
            deny_directive = λ e. told_some (asking deny (packet_of packet)) (sym v.deny_directive ∙ e);
          }
