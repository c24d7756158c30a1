-- A listing of cells, block by block stretched to numbers, is the listing of the packets. Assumes nothing.
use mathlib.Core.Path.{◌≡◌, refl, sym, ◌∙◌, subst}
use mathlib.Core.List.{List, [], ◌∷◌, ◌++◌, map}
use Prim.Native.Nat.{ℕ, suc, ◌-◌, ◌≤◌, ◌<◌}
use native.Mathlib.Omega.{arith}
use Rattle.meaning.specs.Fields.{Packet}
use Rattle.meaning.specs.Listings.{Listed, Lister, at, Agree, widen, Runs, no_more, run, Last, is_good, at_fault, Listing}
use Rattle.meaning.specs.Strips.{Cut, strips, place, sizes, counts, cell_none, cell_more, corner, stretch, ByCells, lift}
use Rattle.meaning.proofs.StripCells.{place_past, place_mono, place_size, strip_of, cell_of, packet_in_range, cell_in_range, corner_in_cell}

module _ {L : Type 0} (cs : List Cut) (h k f g : List ℕ → L) (hf : ByCells cs h f) (kg : ByCells cs k g) where
  -- functions agree at all cells just if they agree at all packets
  pub agree_lifts : Agree (counts cs) h k → Agree (sizes cs) f g
  agree_lifts a p i =
      let s = cell_of cs i in
      hf s.cell p s.lies ∙ a s.cell (cell_in_range s.lies) ∙ sym (kg s.cell p s.lies)

  pub agree_lowers : Agree (sizes cs) f g → Agree (counts cs) h k
  agree_lowers a cell i =
      let s = corner_in_cell cs i in
      sym (hf cell (corner cs cell) s) ∙ a (corner cs cell) (packet_in_range s) ∙ kg cell (corner cs cell) s

module _ {L : Type 0} {ns : List ℕ} {Inner : Lister L} {n : ℕ} {f : Packet → L} where
  -- the same run, told by the number after its last
  pub run_until : (low next : ℕ) (blocks later : List (Listed L))
      → low < next
      → next ≤ n
      → ((x : ℕ) → low ≤ x → x < next → Agree ns (at f low) (at f x))
      → (next < n → ¬ Agree ns (at f low) (at f next))
      → Inner (at f low) blocks
      → Runs ns Inner n f next later
      → Runs ns Inner n f low (map (widen low (next - 1)) blocks ++ later)
  run_until low next blocks later a b all stop inner r =
      let e : next ≡ suc (next - 1) = omega arith in
      run {low = low} {high = next - 1} {blocks = blocks} {later = later} (omega arith) (omega arith) (λ x l m. all x l (omega arith))
      (subst (λ (m : ℕ). m < n → ¬ Agree ns (at f low) (at f m)) e stop)
      inner
      (subst (λ (m : ℕ). Runs ns Inner n f m later) e r)

module _ {L : Type 0} (c : Cut) (cs : List Cut) (h f : List ℕ → L) (hf : ByCells (c ∷ cs) h f) where
  by_strip : (i x : ℕ) → i < strips c → place c i ≤ x → x < place c (suc i) → ByCells cs (at h i) (at f x)
  by_strip i x a b d cell p s = hf (i ∷ cell) (x ∷ p) (cell_more a b d s)

  by_place : (i : ℕ) → i < strips c → ByCells cs (at h i) (at f (place c i))
  by_place i a = by_strip i (place c i) a (omega arith) (c.rising i a)

  -- what agrees on the strips i to j agrees on their numbers, and what does not, does not
  run_lifts : (i j : ℕ) → i ≤ j → j < strips c → ((k : ℕ) → i ≤ k → k ≤ j → Agree (counts cs) (at h i) (at h k))
      → (x : ℕ) → place c i ≤ x → x < place c (suc j) → Agree (sizes cs) (at f (place c i)) (at f x)
  run_lifts i j a b all x l m =
      let s = strip_of c x (omega (arith, place_size c (suc j) b)) in
      let not_below : ¬ (s.strip < i) = λ u. omega (arith, s.to, place_mono c (suc s.strip) i u (omega arith)) in
      let not_above : ¬ (j < s.strip) = λ u. omega (arith, s.from, place_mono c (suc j) s.strip u (omega (arith, s.is_strip))) in
      agree_lifts cs (at h i) (at h s.strip) (at f (place c i)) (at f x) (by_place i (omega arith)) (by_strip s.strip x s.is_strip s.from s.to)
      (all s.strip (omega arith) (omega arith))

  stop_lifts : (i j : ℕ) → i ≤ j → j < strips c → (suc j < strips c → ¬ Agree (counts cs) (at h i) (at h (suc j)))
      → place c (suc j) < c.size → ¬ Agree (sizes cs) (at f (place c i)) (at f (place c (suc j)))
  stop_lifts i j a b stop l e =
      let is_strip : ¬ (strips c ≤ suc j) = λ u. omega (arith, place_past c u) in
      stop (omega arith)
      (agree_lowers cs (at h i) (at h (suc j)) (at f (place c i)) (at f (place c (suc j))) (by_place i (omega arith)) (by_place (suc j) (omega arith)) e)

module _ {L : Type 0} (c : Cut) (cs : List Cut) (i j : ℕ) where
  lift_widen : (bs later : List (Listed L))
      → map (lift (c ∷ cs)) (map (widen i j) bs ++ later) ≡ map (widen (place c i) (place c (suc j) - 1)) (map (lift cs) bs) ++ map (lift (c ∷ cs)) later
  unfolding stretch
  lift_widen [] later = refl
  lift_widen (b ∷ bs) later = rw (lift_widen bs later)

module _
    {L : Type 0}
    (c : Cut)
    (cs : List Cut)
    (Inner Outer : Lister L)
    (inner_lifts : (h f : List ℕ → L) (bs : List (Listed L)) → ByCells cs h f → Inner h bs → Outer f (map (lift cs) bs))
    (h f : List ℕ → L)
    (hf : ByCells (c ∷ cs) h f)
  where
    runs_lift : {i : ℕ} {bs : List (Listed L)} → Runs (counts cs) Inner (strips c) h i bs
        → Runs (sizes cs) Outer c.size f (place c i) (map (lift (c ∷ cs)) bs)
    runs_lift (no_more {low = i} a) = no_more {low = place c i} (omega (arith, place_past c a))
    runs_lift (run {low = i} {high = j} {blocks} {later} a b all stop inner r) =
        rw lift_widen
        (run_until (place c i) (place c (suc j)) (map (lift cs) blocks) (map (lift (c ∷ cs)) later)
        (omega (arith, place_mono c i j a (omega arith), c.rising j b))
        (place_size c (suc j) b)
        (run_lifts c cs h f hf i j a b all)
        (stop_lifts c cs h f hf i j a b stop)
        (inner_lifts (at h i) (at f (place c i)) blocks (by_place c cs h f hf i (omega arith)) inner)
        (runs_lift r))

module _ {L : Type 0} (good : L) where
  last_lifts : {l m : L} {bs : List (Listed L)} → l ≡ m → Last good l bs → Last good m (map (lift []) bs)
  unfolding stretch
  last_lifts e (is_good g) = is_good (sym e ∙ g)
  last_lifts {l} e (at_fault h) = subst (λ (x : L). Last good x (record { block = []; label = l } ∷ [])) e (at_fault h)

  pub listing_lifts : (cs : List Cut) (h f : List ℕ → L) (bs : List (Listed L)) → ByCells cs h f → Listing good (counts cs) h bs
      → Listing good (sizes cs) f (map (lift cs) bs)
  listing_lifts [] h f bs hf a = last_lifts (sym (hf [] [] cell_none)) a
  listing_lifts (c ∷ cs) h f bs hf a =
      rw c.from_zero at (runs_lift c cs (Listing good (counts cs)) (Listing good (sizes cs)) (listing_lifts cs) h f hf a)
