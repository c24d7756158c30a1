-- The listing below a field: where nothing is left, at a cell, and run by run. Assumes nothing.
use mathlib.Core.Path.{◌≡◌, ap, sym, subst}
use mathlib.Core.List.{List, [], ◌∷◌, ◌++◌, map, append_assoc, append-nil}
use Prim.Native.Nat.{ℕ, ◌+◌, ◌-◌, ◌≤◌, ◌<◌}
use native.Mathlib.Omega.{arith}
use lib.ListN.{length, get_or, length-append}
use Rattle.meaning.specs.Labels.{Label, good}
use Rattle.meaning.specs.Listings as listings
use Rattle.meaning.specs.Listings.{Listed, widen, Runs, no_more, Last, is_good, at_fault}
use Rattle.meaning.proofs.LabelKinds.{same_label, same_label_iff}
use Rattle.meaning.proofs.ListingEmpty.{listing_of_good}
use Rattle.meaning.proofs.ListingExists.{listing_of, listing_computed, runs_from, runs_computed}
use Rattle.meaning.proofs.ListingUnique.{agree_refl, listing_is_unique}
use Rattle.meaning.proofs.StripListing.{run_until}
use Rattle.cells.specs.declared.Left.{Left}
use Rattle.cells.specs.Cells.{Chart, step, cell_label, below, left_label, Nothing}
use Rattle.cells.proofs.Below.{nothing_below, below_none, below_more}
use Rattle.lister.specs.Runs.{blocks_below, RunEnd}

-- bs is a listing of the cells below a field
abbrev Lists : Chart → ℕ → Left → List (Listed Label) → Type 0
Lists w field s bs = listings.Listing good (below w field) (cell_label w field s) bs

module _ (w : Chart) (field : ℕ) (s : Left) where
  pub blocks_listed : listings.Listing good (below w field) (cell_label w field s) (blocks_below w field s)
  unfolding blocks_below
  blocks_listed = listing_computed same_label same_label_iff good (below w field) (cell_label w field s)

  only_blocks : (bs : List (Listed Label)) → Lists w field s bs → bs ≡ blocks_below w field s
  only_blocks bs l =
      listing_is_unique good (below w field) (cell_label w field s) (cell_label w field s) bs (blocks_below w field s) l blocks_listed
      (agree_refl (cell_label w field s))

  -- where nothing is left, nothing is listed
  pub nothing_listed : Nothing s → blocks_below w field s ≡ []
  nothing_listed n =
      listing_is_unique good (below w field) (cell_label w field s) (λ p. good) (blocks_below w field s) [] blocks_listed (listing_of_good good (below w field))
      (λ p i. nothing_below w field s p n)

  last_listed : (bs : List (Listed Label)) → field ≡ length w.counts → Last good (left_label w.words s) bs → blocks_below w field s ≡ bs
  last_listed bs e l = sym (only_blocks bs (subst (λ (ns : List ℕ). listings.Listing good ns (cell_label w field s) bs) (sym (below_none w field e)) l))

  -- at a cell, by its label
  pub good_listed : field ≡ length w.counts → left_label w.words s ≡ good → blocks_below w field s ≡ []
  good_listed e g = last_listed [] e (is_good g)

  pub fault_listed : (l : Label) → field ≡ length w.counts → l ≡ left_label w.words s → ¬ (l ≡ good)
      → blocks_below w field s ≡ record { block = []; label = l } ∷ []
  fault_listed l e g b = last_listed _ e (subst (λ (x : Label). Last good x (record { block = []; label = l } ∷ [])) g (at_fault b))

module _ (w : Chart) (field : ℕ) (s : Left) where
  -- the runs of the field from a strip on
  abbrev RunsOf : ℕ → List (Listed Label) → Type 0
  RunsOf strip bs = Runs (below w (field + 1)) (listings.Listing good (below w (field + 1))) (get_or w.counts field 0) (cell_label w field s) strip bs

  -- bs is the listing up to a strip: with the runs from there on it is the whole
  unfoldable pub Upto : ℕ → List (Listed Label) → Type 0
  Upto strip bs = (later : List (Listed Label)) → RunsOf strip later → RunsOf 0 (bs ++ later)

  pub upto_start : Upto 0 []
  unfolding Upto
  upto_start later r = r

  pub upto_run : (strip next : ℕ) (bs : List (Listed Label)) → RunEnd w field s (get_or w.counts field 0) strip next → Upto strip bs
      → Upto next (bs ++ map (widen strip (next - 1)) (blocks_below w (field + 1) (step w field s strip)))
  unfolding Upto
  upto_run strip next bs r u later l =
      let inner = blocks_below w (field + 1) (step w field s strip) in
      subst (RunsOf 0) (sym (append_assoc bs (map (widen strip (next - 1)) inner) later))
      (u (map (widen strip (next - 1)) inner ++ later)
      (run_until strip next inner later r.rises r.within r.agrees r.stops (blocks_listed w (field + 1) (step w field s strip)) l))

  whole : (bs : List (Listed Label)) → field < length w.counts → RunsOf 0 bs → bs ≡ blocks_below w field s
  whole bs h r = only_blocks w field s bs (subst (λ (ns : List ℕ). listings.Listing good ns (cell_label w field s) bs) (sym (below_more w field h)) r)

  pub upto_end : (strip : ℕ) (bs : List (Listed Label)) → field < length w.counts → get_or w.counts field 0 ≤ strip → Upto strip bs
      → bs ≡ blocks_below w field s
  unfolding Upto
  upto_end strip bs h l u = whole bs h (subst (RunsOf 0) (append-nil bs) (u [] (no_more {low = strip} l)))

  -- what is listed up to a strip is no longer than the whole
  pub upto_within : (strip : ℕ) (bs : List (Listed Label)) → field < length w.counts → Upto strip bs → length bs ≤ length (blocks_below w field s)
  unfolding Upto
  upto_within strip bs h u =
      let n = get_or w.counts field 0 in
      let ns = below w (field + 1) in
      let later = runs_from same_label same_label_iff ns (listing_of same_label same_label_iff good ns) n (cell_label w field s) n strip in
      let rest : RunsOf strip later =
      runs_computed same_label same_label_iff ns (listing_of same_label same_label_iff good ns) (listings.Listing good ns)
      (listing_computed same_label same_label_iff good ns) n (cell_label w field s) n strip (omega arith) in
      let e : length (bs ++ later) ≡ length (blocks_below w field s) = ap length (whole (bs ++ later) h (u later rest)) in
      omega (arith, length-append bs later)
