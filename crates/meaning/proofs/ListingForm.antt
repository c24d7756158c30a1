-- The blocks of a listing are in form. Assumes nothing.
use mathlib.Core.List.{List, [], ◌∷◌}
use Prim.Native.Nat.{ℕ}
use lib.Dec.{T}
use Rattle.meaning.specs.Fields.{Packet}
use Rattle.meaning.specs.Form.{block_in_form}
use Rattle.meaning.specs.Listings.{Listed, Lister, at, widen, Runs, no_more, run, Last, is_good, at_fault, Listing}
use Rattle.meaning.specs.Records.{Every, every_none, every_more}
use Rattle.meaning.proofs.FormLaws.{block_in_form_iff}
use Rattle.meaning.proofs.RecordsEvery.{every_append, every_map}

-- the listed block is in form
abbrev pub InForm : {L : Type 0} → List ℕ → Listed L → Type 0
InForm ns b = T (block_in_form ns b.block)

module _ {L : Type 0} where
  module _ (ns : List ℕ) (Inner : Lister L) (n : ℕ) (inner_form : (f : Packet → L) (bs : List (Listed L)) → Inner f bs → Every (InForm ns) bs) where
    runs_form : {f : Packet → L} {low : ℕ} {bs : List (Listed L)} → Runs ns Inner n f low bs → Every (InForm (n ∷ ns)) bs
    runs_form (no_more a) = every_none
    runs_form {f} (run {low} {high} {blocks} {later} a b c d i r) =
        every_append
        (every_map (widen low high) (λ x t. (block_in_form_iff n ns (record { low = low; high = high }) x.block).1 (a, b, t)) (inner_form (at f low) blocks i))
        (runs_form r)

  last_form : {good l : L} {bs : List (Listed L)} → Last good l bs → Every (InForm []) bs
  unfolding block_in_form
  last_form (is_good g) = every_none
  last_form (at_fault h) = every_more tt every_none

  pub listing_in_form : (good : L) (ns : List ℕ) (f : Packet → L) (bs : List (Listed L)) → Listing good ns f bs → Every (InForm ns) bs
  listing_in_form good [] f bs a = last_form a
  listing_in_form good (n ∷ ns) f bs a = runs_form ns (Listing good ns) n (listing_in_form good ns) a
