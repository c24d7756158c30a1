-- The walk over the strips of a field finds the best cell below it. Assumes nothing.
use mathlib.Core.Path.{◌≡◌, refl, ap, sym, ◌∙◌, subst}
use mathlib.Core.List.{List, [], ◌∷◌}
use Rattle.std.specs.Prelude.{Option, Some, None}
use Prim.Native.Nat.{ℕ, ◌+◌, ◌≤◌, ◌<◌}
use native.Mathlib.Omega.{arith}
use native.Mathlib.Decide.{dec_lt}
use borrow.Author.Tests.{lt-ltb, le-ltb}
use lib.Dec.{ltb}
use Rattle.std.specs.Bool.{then_some}
use native.Mathlib.Numerals.{add-one}
use lib.ListN.{length, get_or, drop, drop_of_length-le}
use Rattle.meaning.specs.Labels.{Label, good}
use Rattle.meaning.specs.Sizes.{good_rank, most_strips}
use Rattle.meaning.specs.Form.{most_rules}
use Rattle.meaning.proofs.VerdictRanks.{rank, good_ranks}
use Rattle.cells.specs.declared.Left.{Left}
use Rattle.cells.specs.Cells.{Chart, Formed, left_label, step, below, Nothing}
use Rattle.cells.proofs.Below.{nothing_below, below_none, below_more}
use Rattle.judge.specs.declared.Best.{Best}
use Rattle.judge.specs.Ranks.{cell_rank, NoneBelow, FirstBelow, BetterThan}
use Rattle.judge.proofs.Better.{rank_or, none_is_better, better_start, better_stays, better_more, better_last, better_kept}

-- b is the best of the cells below a field, if it is better than the limit
abbrev pub BetterBelow : Chart → ℕ → Left → ℕ → Option Best → Type 0
BetterBelow w field s limit b = BetterThan (below w field) (cell_rank w field s) field limit b

-- no cell below a field is better than this rank
abbrev pub NoneBetterBelow : Chart → ℕ → Left → ℕ → Type 0
NoneBetterBelow w field s n = NoneBelow (below w field) (cell_rank w field s) n

-- Before a strip of the field: b is the best of the strips passed, `top` is to be beaten, and of what was left where the walk last
-- went down, no cell is better.
pub record Walked (w : Chart) (field : ℕ) (s : Left) (limit count strip : ℕ) (b : Option Best) (top : ℕ) (before : Left) : Type 0 where
  pub is_field : field < length w.counts
  pub is_count : count ≡ get_or w.counts field 0
  pub few : count ≤ most_strips
  pub low_rank : top ≤ good_rank
  pub is_top : top ≡ rank_or limit b
  pub so_far : BetterThan (strip ∷ below w (field + 1)) (cell_rank w field s) field limit b
  pub none_before : NoneBetterBelow w (field + 1) before top

-- where nothing is left, every rank is that of good
none_at_nothing : (w : Chart) (field : ℕ) (s : Left) (n : ℕ) → Nothing s → n ≤ good_rank → NoneBetterBelow w field s n
none_at_nothing w field s n e low q i = omega (arith, ap (rank most_rules) (nothing_below w field s q e), good_ranks most_rules good refl)

module _ (w : Chart) (field : ℕ) (s : Left) (limit : ℕ) where
  pub kept_at_zero : limit ≡ 0 → BetterBelow w field s limit None
  kept_at_zero z q i = omega arith

  pub kept_at_nothing : Nothing s → limit ≤ good_rank → BetterBelow w field s limit None
  kept_at_nothing n low = none_at_nothing w field s limit n low

  -- where no field is left, the rank n of the label l decides
  module _ (l : Label) (n : ℕ) (last : field ≡ length w.counts) (is_label : l ≡ left_label w.words s) (is_rank : n ≡ rank most_rules l) where
    is_cell_rank : n ≡ cell_rank w field s []
    is_cell_rank = is_rank ∙ ap (rank most_rules) is_label

    -- it is taken if it is below the limit
    pub taken_last : (b : Best) (got : Option Best) → got ≡ then_some (ltb n limit) b → length b.strips ≡ field → b.rank ≡ n
        → BetterBelow w field s limit got
    taken_last b got is_got full e =
        subst (λ (o : Option Best). BetterBelow w field s limit o) (sym is_got)
        (subst (λ (ns : List ℕ). BetterThan ns (cell_rank w field s) field limit (then_some (ltb n limit) b)) (sym (below_none w field last)) (elim (dec_lt n limit) [
          | yes h ↦
              rw (lt-ltb n limit h)
              (subst (λ (p : List ℕ). FirstBelow [] (cell_rank w field s) limit b.rank p) (sym (drop_of_length-le b.strips {i = field} (omega arith)))
              (better_last (cell_rank w field s) limit b.rank (omega (arith, is_cell_rank)) (e ∙ is_cell_rank)))
          | no h ↦ rw (le-ltb n limit (omega arith)) (better_kept (cell_rank w field s) limit (omega (arith, is_cell_rank)))
        ]))

  module _ (count : ℕ) where
    pub walked_start : (before : Left) → Formed w → field < length w.counts → count ≡ get_or w.counts field 0 → Nothing before
        → limit ≤ good_rank
        → Walked w field s limit count 0 None limit before
    walked_start before f h is_count n low =
        record {
          is_field = h;
          is_count = is_count;
          few = omega (arith, f.few field);
          low_rank = low;
          is_top = refl;
          so_far = better_start (below w (field + 1)) (cell_rank w field s) field limit;
          none_before = none_at_nothing w (field + 1) before limit n low;
        }

    -- the same best, and the same to be beaten
    pub walked_as : (strip : ℕ) (b b' : Option Best) (top top' : ℕ) (before : Left) → b' ≡ b → top' ≡ top → Walked w field s limit count strip b top before
        → Walked w field s limit count strip b' top' before
    walked_as strip b b' top top' before e f z =
        subst (λ (o : Option Best). Walked w field s limit count strip o top' before) (sym e)
        (subst (λ (n : ℕ). Walked w field s limit count strip b n before) (sym f) z)

    module _ (strip : ℕ) (b : Option Best) (top : ℕ) (before : Left) (z : Walked w field s limit count strip b top before) (x : Left)
        (ex : x ≡ step w field s strip) where
      -- no cell of the strip is better
      passed : NoneBetterBelow w (field + 1) x top → (y : Left) → NoneBetterBelow w (field + 1) y top → Walked w field s limit count (strip + 1) b top y
      passed none y none_y =
          let here : NoneBetterBelow w (field + 1) (step w field s strip) (rank_or limit b) =
          subst (λ (u : Left). NoneBetterBelow w (field + 1) u (rank_or limit b)) ex (subst (λ (n : ℕ). NoneBetterBelow w (field + 1) x n) z.is_top none) in
          record {
            is_field = z.is_field;
            is_count = z.is_count;
            few = z.few;
            low_rank = z.low_rank;
            is_top = z.is_top;
            so_far = rw (add-one strip) (better_stays (below w (field + 1)) (cell_rank w field s) field limit strip b z.so_far here);
            none_before = none_y;
          }

      -- the same is left as where the walk last went down
      pub walked_skip : x ≡ before → Walked w field s limit count (strip + 1) b top before
      walked_skip same = passed (subst (λ (u : Left). NoneBetterBelow w (field + 1) u top) (sym same) z.none_before) before z.none_before

      pub walked_past : BetterBelow w (field + 1) x top None → Walked w field s limit count (strip + 1) b top x
      walked_past none = passed none x none

      pub walked_more : (c d : Best) → BetterBelow w (field + 1) x top (Some c)
          → (d.rank ≡ c.rank) × (drop field d.strips ≡ strip ∷ drop (field + 1) c.strips)
          → Walked w field s limit count (strip + 1) (Some d) c.rank x
      walked_more c d found e =
          let lower : c.rank < top = found.is_below in
          let here : BetterBelow w (field + 1) (step w field s strip) (rank_or limit b) (Some c) =
          subst (λ (u : Left). BetterBelow w (field + 1) u (rank_or limit b) (Some c)) ex
          (subst (λ (n : ℕ). BetterBelow w (field + 1) x n (Some c)) z.is_top found) in
          record {
            is_field = z.is_field;
            is_count = z.is_count;
            few = z.few;
            low_rank = omega (arith, z.low_rank);
            is_top = sym e.0;
            so_far = rw (add-one strip) (better_more (below w (field + 1)) (cell_rank w field s) field limit strip b c d z.so_far here e.0 e.1);
            none_before = none_is_better (below w (field + 1)) (cell_rank w (field + 1) x) (field + 1) top (Some c) found;
          }

    pub walked_end : (strip : ℕ) (b : Option Best) (top : ℕ) (before : Left) → Walked w field s limit count strip b top before → strip ≡ count
        → BetterBelow w field s limit b
    walked_end strip b top before z h =
        let all : strip ≡ get_or w.counts field 0 = h ∙ z.is_count in
        subst (λ (ns : List ℕ). BetterThan ns (cell_rank w field s) field limit b)
        (sym (below_more w field z.is_field ∙ ap (λ (j : ℕ). j ∷ below w (field + 1)) (sym all))) z.so_far
