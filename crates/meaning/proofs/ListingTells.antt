-- A listing tells the label of every packet: each packet at fault lies in one block, which carries its label. Assumes nothing.
use mathlib.Core.Path.{◌≡◌, refl, sym, ◌∙◌, ap, subst}
use mathlib.Core.Logic.{◌↔◌}
use mathlib.Core.Bool.{Bool, true, false, cond}
use mathlib.Core.List.{List, [], ◌∷◌, ◌++◌, map, nil≢cons, head-eq_of_cons-eq, append-nil}
use Prim.Native.Nat.{ℕ, ◌≤◌, ◌<◌}
use native.Mathlib.Omega.{arith}
use native.Mathlib.Decide.{dec_lt, dec_le}
use Rattle.meaning.specs.Blocks.{within, holds}
use Rattle.meaning.specs.Fields.{Packet, InRange, range_none, range_more}
use Rattle.meaning.specs.Listings.{Listed, Lister, at, Agree, widen, Runs, no_more, run, Last, is_good, at_fault, Listing, told, Tells, tells_good, tells_fault}
use Rattle.meaning.proofs.BlockHolding.{within_iff}
use Rattle.meaning.proofs.Tests.{passed, failed}
use Rattle.meaning.proofs.ListingUnique.{listing_is_unique}

module _ {L : Type 0} where
  put : (c : Bool) (l : L) (ls ms : List L) → cond c (l ∷ ls) ls ++ ms ≡ cond c (l ∷ (ls ++ ms)) (ls ++ ms)
  put true l ls ms = refl
  put false l ls ms = refl

  pub told_append : (p : Packet) (bs cs : List (Listed L)) → told p (bs ++ cs) ≡ told p bs ++ told p cs
  unfolding told
  told_append p [] cs = refl
  told_append p (b ∷ bs) cs =
      ap (λ (ls : List L). cond (holds b.block p) (b.label ∷ ls) ls) (told_append p bs cs) ∙ sym (put (holds b.block p) b.label (told p bs) (told p cs))

  -- what widened blocks tell: of a packet in the run what the blocks tell of the rest, of another nothing
  pub told_in : (low high x : ℕ) (p : Packet) (bs : List (Listed L)) → low ≤ x → x ≤ high → told (x ∷ p) (map (widen low high) bs) ≡ told p bs
  unfolding told holds
  told_in low high x p [] a b = refl
  told_in low high x p (c ∷ bs) a b =
      let e : within (record { low = low; high = high }) x ≡ true = passed _ ((within_iff (record { low = low; high = high }) x).1 (a, b)) in
      rw (e, told_in low high x p bs a b)

  pub told_out : (low high x : ℕ) (p : Packet) (bs : List (Listed L)) → ¬ ((low ≤ x) × (x ≤ high)) → told (x ∷ p) (map (widen low high) bs) ≡ []
  unfolding told holds
  told_out low high x p [] h = refl
  told_out low high x p (c ∷ bs) h =
      let e : within (record { low = low; high = high }) x ≡ false = failed _ (λ t. h ((within_iff (record { low = low; high = high }) x).0 t)) in
      rw (e, told_out low high x p bs h)

  told_short : (low high : ℕ) (bs : List (Listed L)) → told [] (map (widen low high) bs) ≡ []
  unfolding told holds
  told_short low high [] = refl
  told_short low high (b ∷ bs) = told_short low high bs

  joined : (p : Packet) (bs cs : List (Listed L)) (ls ms : List L) → told p bs ≡ ls → told p cs ≡ ms → told p (bs ++ cs) ≡ ls ++ ms
  joined p bs cs ls ms a b = told_append p bs cs ∙ ap (λ (t : List L). t ++ told p cs) a ∙ ap (λ (t : List L). ls ++ t) b

module _ {L : Type 0} {ns : List ℕ} {Inner : Lister L} {n : ℕ} {f : Packet → L} where
  -- the runs from `low` on tell nothing of what is below
  told_below : (x : ℕ) (p : Packet) {low : ℕ} {bs : List (Listed L)} → x < low → Runs ns Inner n f low bs → told (x ∷ p) bs ≡ []
  unfolding told
  told_below x p h (no_more a) = refl
  told_below x p h (run {low} {high} {blocks} {later} a b c d i r) =
      joined (x ∷ p) (map (widen low high) blocks) later [] [] (told_out low high x p blocks (λ w. omega (arith, w.0))) (told_below x p (omega arith) r)

module _ {L : Type 0} (good : L) where
  tells_same : {l : L} {ls ms : List L} → ls ≡ ms → Tells good l ms → Tells good l ls
  tells_same e (tells_good g t) = tells_good g (e ∙ t)
  tells_same e (tells_fault h t) = tells_fault h (e ∙ t)

  module _
      (ns : List ℕ)
      (Inner : Lister L)
      (n : ℕ)
      (inner_tells : (f : Packet → L) (bs : List (Listed L)) (p : Packet) → Inner f bs → InRange ns p → Tells good (f p) (told p bs))
    where
      runs_tell : (f : Packet → L) (x : ℕ) (p : Packet) {low : ℕ} {bs : List (Listed L)} → low ≤ x → x < n → InRange ns p → Runs ns Inner n f low bs
          → Tells good (f (x ∷ p)) (told (x ∷ p) bs)
      runs_tell f x p h l i (no_more a) = absurd (omega arith)
      runs_tell f x p h l i (run {low} {high} {blocks} {later} a b c d inner r) =
          elim (dec_lt high x) [
            | yes past ↦
                tells_same (joined (x ∷ p) (map (widen low high) blocks) later [] _ (told_out low high x p blocks (λ w. omega (arith, w.1))) refl)
                (runs_tell f x p past l i r)
            | no here ↦
                tells_same (joined (x ∷ p) (map (widen low high) blocks) later _ [] (told_in low high x p blocks h (omega arith)) (told_below x p (omega arith) r) ∙ append-nil (told p blocks))
                (subst (λ (m : L). Tells good m (told p blocks)) (c x h (omega arith) p i) (inner_tells (at f low) blocks p inner i))
          ]

  last_tells : {l : L} {bs : List (Listed L)} → Last good l bs → Tells good l (told [] bs)
  unfolding told holds
  last_tells (is_good g) = tells_good g refl
  last_tells (at_fault h) = tells_fault h refl

  -- each packet at fault lies in exactly one block, which carries its label; a good packet lies in none
  pub listing_tells : (ns : List ℕ) (f : Packet → L) (bs : List (Listed L)) (p : Packet) → Listing good ns f bs → InRange ns p
      → Tells good (f p) (told p bs)
  listing_tells [] f bs p a range_none = last_tells a
  listing_tells (n ∷ ns) f bs p a (range_more {x} {p = q} h i) = runs_tell ns (Listing good ns) n (listing_tells ns) f x q (omega arith) h i a

  -- and nothing else lies in any
  module _
      (ns : List ℕ)
      (Inner : Lister L)
      (n : ℕ)
      (inner_silent : (f : Packet → L) (bs : List (Listed L)) (p : Packet) → Inner f bs → ¬ InRange ns p → told p bs ≡ [])
    where
      runs_silent : (f : Packet → L) (p : Packet) {low : ℕ} {bs : List (Listed L)} → ¬ InRange (n ∷ ns) p → Runs ns Inner n f low bs → told p bs ≡ []
      unfolding told
      runs_silent f p h (no_more a) = refl
      runs_silent f [] h (run {low} {high} {blocks} {later} a b c d inner r) =
          joined [] (map (widen low high) blocks) later [] [] (told_short low high blocks) (runs_silent f [] h r)
      runs_silent f (x ∷ p) h (run {low} {high} {blocks} {later} a b c d inner r) =
          joined (x ∷ p) (map (widen low high) blocks) later [] [] this (runs_silent f (x ∷ p) h r)
        where
          this : told (x ∷ p) (map (widen low high) blocks) ≡ []
          this =
              elim (dec_le low x) [
                | yes l ↦ elim (dec_le x high) [
                  | yes m ↦
                      told_in low high x p blocks l m
                      ∙ inner_silent (at f low) blocks p inner (λ i. h (range_more {n = n} {x = x} (omega arith) i))
                  | no m ↦ told_out low high x p blocks (λ w. m w.1)
                ]
                | no l ↦ told_out low high x p blocks (λ w. l w.0)
              ]

  last_silent : {l : L} {bs : List (Listed L)} (p : Packet) → ¬ InRange [] p → Last good l bs → told p bs ≡ []
  unfolding told holds
  last_silent [] h b = absurd (h range_none)
  last_silent (x ∷ p) h (is_good g) = refl
  last_silent (x ∷ p) h (at_fault k) = refl

  pub listing_silent : (ns : List ℕ) (f : Packet → L) (bs : List (Listed L)) (p : Packet) → Listing good ns f bs → ¬ InRange ns p → told p bs ≡ []
  listing_silent [] f bs p a h = last_silent p h a
  listing_silent (n ∷ ns) f bs p a h = runs_silent ns (Listing good ns) n (listing_silent ns) f p h a

  tells_once : {l m : L} {ls : List L} → Tells good l ls → Tells good m ls → l ≡ m
  tells_once (tells_good a s) (tells_good b t) = a ∙ sym b
  tells_once (tells_good a s) (tells_fault b t) = absurd (nil≢cons (sym s ∙ t))
  tells_once (tells_fault a s) (tells_good b t) = absurd (nil≢cons (sym t ∙ s))
  tells_once (tells_fault a s) (tells_fault b t) = head-eq_of_cons-eq (sym s ∙ t)

  -- two label functions have the same listing just if they agree at every packet
  pub same_listing_iff_agree : (ns : List ℕ) (f g : Packet → L) (bs cs : List (Listed L)) → Listing good ns f bs → Listing good ns g cs
      → (bs ≡ cs) ↔ Agree ns f g
  same_listing_iff_agree ns f g bs cs a b = (
    λ e p i. tells_once (listing_tells ns f bs p a i) (tells_same (ap (told p) e) (listing_tells ns g cs p b i)),
    listing_is_unique good ns f g bs cs a b,
  )
