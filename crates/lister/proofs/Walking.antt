-- The walk that lists run by run. Assumes nothing.
use mathlib.Core.Path.{◌≡◌, refl, ap, sym, ◌∙◌, subst}
use mathlib.Core.List.{List, [], ◌∷◌, ◌++◌, map, append-nil, map-append}
use Prim.Native.Nat.{ℕ, ◌+◌, ◌-◌, ◌*◌, ◌^◌, ◌≤◌, ◌<◌}
use native.Mathlib.Omega.{arith}
use lib.ListN.{length, get_or, length-append, length-map}
use Rattle.meaning.specs.Buffers as buffers
use Rattle.meaning.specs.Labels.{Label, kind, rule}
use Rattle.meaning.specs.Listings.{Listed, widen}
use Rattle.meaning.specs.Sizes.{field_count, most_strips, field_places}
use Rattle.cells.specs.declared.Left.{Left}
use Rattle.cells.specs.Cells.{Chart, Formed, step}
use Rattle.lister.specs.Rows.{bounds, labelled_row, RowWith, span_at, row_of, row_at, rows_from}
use Rattle.lister.specs.Runs.{RunEnd, Placed, blocks_below}
use Rattle.lister.proofs.Listing.{Upto, upto_start, upto_run, upto_end, upto_within}
use Rattle.lister.proofs.RowLaws.{rows_append, rows_widened}

module _ (w : Chart) (places : List ℕ) (field : ℕ) (s : Left) (row buffer₀ : List ℕ) (total : ℕ) where
  -- a block below the field as a row
  abbrev rowed : Listed Label → List ℕ
  rowed = row_of places field (bounds field row)

  -- the number of blocks and the buffer, where the blocks bs are listed
  abbrev pub Told : List (Listed Label) → ℕ → List ℕ → Type 0
  Told bs t buffer = (t ≡ total + length bs) × (buffer ≡ rows_from buffer₀ total (map rowed bs))

  -- before a strip of the field: the blocks up to there are told
  pub record ToldTo (count strip t : ℕ) (buffer : List ℕ) : Type 0 where
    pub is_field : field < length w.counts
    pub is_count : count ≡ get_or w.counts field 0
    pub few : count ≤ most_strips
    pub within : strip ≤ count
    pub blocks : List (Listed Label)
    pub upto : Upto w field s strip blocks
    pub told : Told blocks t buffer

  pub listing_start : (count : ℕ) → Formed w → field < length w.counts → count ≡ get_or w.counts field 0 → ToldTo count 0 total buffer₀
  listing_start count f h e =
      record {
        is_field = h;
        is_count = e;
        few = omega (arith, f.few field);
        within = omega arith;
        blocks = [];
        upto = upto_start w field s;
        told = (omega arith, refl);
      }

  module _ (count strip next t : ℕ) (buffer : List ℕ) (z : ToldTo count strip t buffer) (r : RunEnd w field s count strip next) (x : Left)
      (e : x ≡ step w field s strip) where
    -- the blocks of the run
    abbrev run_blocks : List (Listed Label)
    run_blocks = map (widen strip (next - 1)) (blocks_below w (field + 1) (step w field s strip))

    on : Upto w field s next (z.blocks ++ run_blocks)
    on = upto_run w field s strip next z.blocks (subst (λ (n : ℕ). RunEnd w field s n strip next) z.is_count r) z.upto

    long : length (z.blocks ++ run_blocks) ≡ length z.blocks + length (blocks_below w (field + 1) x)
    long =
        let widened = length-map (blocks_below w (field + 1) (step w field s strip)) (widen strip (next - 1)) in
        let same = ap (λ (y : Left). length (blocks_below w (field + 1) y)) (sym e) in
        length-append z.blocks run_blocks ∙ ap (λ (n : ℕ). length z.blocks + n) (widened ∙ same)

    -- their number stays below what the whole stays below
    pub listing_room : (top : ℕ) → total + length (blocks_below w field s) < top → t + length (blocks_below w (field + 1) x) < top
    listing_room top h = omega (arith, long, upto_within w field s next (z.blocks ++ run_blocks) z.is_field on, z.told.0)

    pub listing_more : (row' : List ℕ) (t' : ℕ) (buffer' : List ℕ)
        → RowWith row field (span_at places field strip (next - 1)) row'
        → t' ≡ t + length (blocks_below w (field + 1) x)
        → buffer' ≡ rows_from buffer t (map (row_of places (field + 1) (bounds (field + 1) row')) (blocks_below w (field + 1) x))
        → ToldTo count next t' buffer'
    listing_more row' t' buffer' g et eb =
        let counted : t ≡ total + length (map rowed z.blocks) = z.told.0 ∙ ap (λ (n : ℕ). total + n) (sym (length-map z.blocks rowed)) in
        let widened = rows_widened places field row row' strip (next - 1) g (blocks_below w (field + 1) (step w field s strip)) in
        let run_told : buffer' ≡ rows_from buffer t (map rowed run_blocks) =
        eb
        ∙ ap (λ (y : Left). rows_from buffer t (map (row_of places (field + 1) (bounds (field + 1) row')) (blocks_below w (field + 1) y))) e
        ∙ ap (λ (rs : List (List ℕ)). rows_from buffer t rs) widened in
        let all_told : rows_from buffer t (map rowed run_blocks) ≡ rows_from buffer₀ total (map rowed (z.blocks ++ run_blocks)) =
        ap (λ (b : List ℕ). rows_from b t (map rowed run_blocks)) z.told.1
        ∙ ap (λ (n : ℕ). rows_from (rows_from buffer₀ total (map rowed z.blocks)) n (map rowed run_blocks)) counted
        ∙ sym (rows_append buffer₀ total (map rowed z.blocks) (map rowed run_blocks))
        ∙ ap (λ (rs : List (List ℕ)). rows_from buffer₀ total rs) (sym (map-append rowed z.blocks run_blocks)) in
        record {
          is_field = z.is_field;
          is_count = z.is_count;
          few = z.few;
          within = r.within;
          blocks = z.blocks ++ run_blocks;
          upto = on;
          told = (omega (arith, long, z.told.0), run_told ∙ all_told);
        }

  told_as : (bs : List (Listed Label)) (t : ℕ) (buffer : List ℕ) → bs ≡ blocks_below w field s → Told bs t buffer → Told (blocks_below w field s) t buffer
  told_as bs t buffer e told = subst (λ (cs : List (Listed Label)). Told cs t buffer) e told

  pub listing_end : (count strip t : ℕ) (buffer : List ℕ) → count ≤ strip → ToldTo count strip t buffer → Told (blocks_below w field s) t buffer
  listing_end count strip t buffer h z =
      told_as z.blocks t buffer (upto_end w field s strip z.blocks z.is_field (omega (arith, z.is_count)) z.upto) z.told

  -- a listing known outright: of no block, and of one
  pub none_told : blocks_below w field s ≡ [] → Told (blocks_below w field s) total buffer₀
  none_told e = told_as [] total buffer₀ (sym e) (omega arith, refl)

  pub one_told : (l : Label) (buffer : List ℕ) → field ≡ field_count → blocks_below w field s ≡ record { block = []; label = l } ∷ []
      → buffer ≡ row_at buffer₀ total (labelled_row row l)
      → Told (blocks_below w field s) (total + 1) buffer
  unfolding labelled_row buffers.bounds
  one_told l buffer last e eb =
      told_as (record { block = []; label = l } ∷ []) (total + 1) buffer (sym e) (
        omega arith,
        eb ∙ ap (λ (b : List ℕ). row_at buffer₀ total (kind l ∷ rule l ∷ b)) (ap (λ (j : ℕ). bounds j row) (sym last) ∙ sym (append-nil (bounds field row))),
      )

-- the places of a run are as its row needs them
pub placed_run : (w : Chart) (places : List ℕ) (field : ℕ) (s : Left) (count strip next : ℕ) → Placed w.counts places → count ≡ get_or w.counts field 0
    → RunEnd w field s count strip next
    → (get_or places (field_places * field + strip) 0 < 2 ^ 32) × (0 < get_or places (field_places * field + next) 0)
    × (get_or places (field_places * field + next) 0 ≤ 2 ^ 32)
placed_run w places field s count strip next p e r =
    let last : next - 1 < get_or w.counts field 0 = omega (arith, r.rises, r.within) in
    let next_is : next - 1 + 1 ≡ next = omega (arith, r.rises) in (
      p.begins field strip (omega (arith, r.rises, r.within)),
      subst (λ (j : ℕ). 0 < get_or places (field_places * field + j) 0) next_is (p.ends_above field (next - 1) last),
      subst (λ (j : ℕ). get_or places (field_places * field + j) 0 ≤ 2 ^ 32) next_is (p.ends field (next - 1) last),
    )
