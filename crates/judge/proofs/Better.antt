-- The best cell is found strip by strip, whatever the ranks. Assumes nothing.
use mathlib.Core.Path.{◌≡◌, sym, ◌∙◌, subst}
use mathlib.Core.List.{List, [], ◌∷◌}
use Rattle.std.specs.Prelude.{Option, Some, None}
use Prim.Native.Nat.{ℕ, suc, ◌+◌, ◌≤◌, ◌<◌}
use native.Mathlib.Omega.{arith}
use lib.ListN.{drop}
use Rattle.meaning.specs.Fields.{range_none, range_more}
use Rattle.meaning.specs.Listings.{at}
use Rattle.meaning.proofs.VerdictFirst as first
use Rattle.judge.specs.declared.Best.{Best}
use Rattle.judge.specs.Ranks.{NoneBelow, FirstBelow, BetterThan}

-- what is to be beaten from then on
abbrev pub rank_or : ℕ → Option Best → ℕ
rank_or limit None = limit
rank_or limit (Some b) = b.rank

module _ (ns : List ℕ) (r : List ℕ → ℕ) (field limit : ℕ) where
  better_is_lower : (b : Option Best) → BetterThan ns r field limit b → rank_or limit b ≤ limit
  better_is_lower None none = omega arith
  better_is_lower (Some b) z = omega (arith, z.is_below)

  pub none_is_better : (b : Option Best) → BetterThan ns r field limit b → NoneBelow ns r (rank_or limit b)
  none_is_better None none q i = none q i
  none_is_better (Some b) z q i = omega (arith, z.is_rank, z.first_of.lowest_rank q i)

module _ (ns : List ℕ) (r : List ℕ → ℕ) (field limit : ℕ) where
  -- before the first strip there is no cell
  pub better_start : BetterThan (0 ∷ ns) r field limit None
  better_start q (range_more h i) = absurd (omega arith)

  module _ (strip : ℕ) where
    -- b is the best of the strips before this one, where no cell is better
    pub better_stays : (b : Option Best) → BetterThan (strip ∷ ns) r field limit b → NoneBelow ns (at r strip) (rank_or limit b)
        → BetterThan (suc strip ∷ ns) r field limit b
    better_stays None all none = first.split strip ns (λ q. limit ≤ r q) all none
    better_stays (Some b) z none =
        record {
          first_of = first.kept strip ns r (drop field b.strips) z.first_of (λ q i. omega (arith, z.is_rank, none q i));
          is_rank = z.is_rank;
          is_below = z.is_below;
        }

    -- or c is that of this strip, and better than b
    pub better_more : (b : Option Best) (c d : Best) → BetterThan (strip ∷ ns) r field limit b
        → BetterThan ns (at r strip) (field + 1) (rank_or limit b) (Some c)
        → d.rank ≡ c.rank
        → drop field d.strips ≡ strip ∷ drop (field + 1) c.strips
        → BetterThan (suc strip ∷ ns) r field limit (Some d)
    better_more b c d so_far z er es =
        let cell = drop (field + 1) c.strips in
        let lower : c.rank < rank_or limit b = z.is_below in
        subst (λ (p : List ℕ). FirstBelow (suc strip ∷ ns) r limit d.rank p) (sym es)
        (record {
          first_of = first.taken strip ns r cell (λ q i. omega (arith, lower, z.is_rank, none_is_better (strip ∷ ns) r field limit b so_far q i)) z.first_of;
          is_rank = er ∙ z.is_rank;
          is_below = omega (arith, er, lower, better_is_lower (strip ∷ ns) r field limit b so_far);
        })

-- where no field is left, there is one cell
module _ (r : List ℕ → ℕ) (limit : ℕ) where
  pub better_last : (n : ℕ) → r [] < limit → n ≡ r [] → FirstBelow [] r limit n []
  better_last n less e = record { first_of = first.only_empty r; is_rank = e; is_below = omega arith }

  pub better_kept : limit ≤ r [] → NoneBelow [] r limit
  better_kept h q range_none = h
