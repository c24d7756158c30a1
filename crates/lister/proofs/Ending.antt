-- The walk to the end of a run. Assumes nothing.
use mathlib.Core.Path.{◌≡◌, refl, sym, subst}
use Prim.Native.Nat.{ℕ, ◌+◌, ◌≤◌, ◌<◌}
use native.Mathlib.Omega.{arith}
use native.Mathlib.Decide.{dec_lt}
use lib.ListN.{get_or}
use Rattle.meaning.specs.Sizes.{most_strips}
use Rattle.meaning.proofs.ListingUnique.{agree_sym, agree_trans}
use Rattle.cells.specs.declared.Left.{Left}
use Rattle.cells.specs.Cells.{Chart, Formed, step, Same}
use Rattle.lister.specs.Runs.{RunEnd}

-- the strips from `strip` up to `next` agree, and the last of them leaves `before` or what gives the same labels
pub record Reached (w : Chart) (field : ℕ) (s : Left) (count strip next : ℕ) (before : Left) : Type 0 where
  pub few : count ≤ most_strips
  pub rises : strip < next
  pub within : next ≤ count
  pub agrees : (i : ℕ) → strip ≤ i → i < next → Same w (field + 1) (step w field s strip) (step w field s i)
  pub last_agrees : Same w (field + 1) (step w field s strip) before

module _ (w : Chart) (field : ℕ) (s : Left) (count strip : ℕ) where
  pub reached_start : (before : Left) → Formed w → count ≡ get_or w.counts field 0 → strip < count → before ≡ step w field s strip
      → Reached w field s count strip (strip + 1) before
  reached_start before f e h b =
      record {
        few = omega (arith, f.few field);
        rises = omega arith;
        within = omega arith;
        agrees = λ i l m. subst (λ (j : ℕ). Same w (field + 1) (step w field s strip) (step w field s j)) (omega arith) (λ p r. refl);
        last_agrees = subst (λ (z : Left). Same w (field + 1) (step w field s strip) z) (sym b) (λ p r. refl);
      }

  module _ (next : ℕ) (before : Left) (z : Reached w field s count strip next before) where
    pub reached_more : (x : Left) → next < count → x ≡ step w field s next → Same w (field + 1) before x → Reached w field s count strip (next + 1) x
    reached_more x h e a =
        let on : Same w (field + 1) (step w field s strip) x = agree_trans z.last_agrees a in
        record {
          few = z.few;
          rises = omega (arith, z.rises);
          within = omega arith;
          agrees = λ i l m. elim (dec_lt i next) [
            | yes u ↦ z.agrees i l u
            | no u ↦
                let at_next : next ≡ i = omega arith in
                subst (λ (j : ℕ). Same w (field + 1) (step w field s strip) (step w field s j)) at_next
                (subst (λ (y : Left). Same w (field + 1) (step w field s strip) y) e on)
          ];
          last_agrees = on;
        }

    pub reached_stop : (x : Left) → x ≡ step w field s next → ¬ Same w (field + 1) before x → RunEnd w field s count strip next
    reached_stop x e d =
        record {
          rises = z.rises;
          within = z.within;
          agrees = z.agrees;
          stops = λ h a. d (agree_trans (agree_sym z.last_agrees) (subst (λ (y : Left). Same w (field + 1) (step w field s strip) y) (sym e) a));
        }

    pub reached_end : count ≤ next → RunEnd w field s count strip count
    reached_end h =
        record {
          rises = omega (arith, z.rises);
          within = omega arith;
          agrees = λ i l m. z.agrees i l (omega arith);
          stops = λ l. absurd (omega arith);
        }
