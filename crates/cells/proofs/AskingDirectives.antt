-- What the directives ask for, by masks: an exception left turns its directive round. Assumes nothing.
use mathlib.Core.Path.{◌≡◌, refl, sym, ap, ◌∙◌, subst}
use mathlib.Core.Bool.{Bool, true, false, not, ◌&&◌, ◌||◌, cond}
use mathlib.Core.List.{List, [], ◌∷◌}
use Prim.Native.Nat.{ℕ, zero, suc, ◌+◌, ◌≤◌, ◌<◌}
use native.Mathlib.Omega.{arith}
use native.Mathlib.Decide.{ℕ_discrete}
use native.Mathlib.Numerals.{add-one}
use borrow.Author.Tests.{eq-eqb, ne_eqb, lt-ltb, le-ltb}
use lib.Bits.{bit_and}
use lib.Dec.{eqb, ltb}
use lib.ListN.{length, get_or}
use Rattle.meaning.specs.Blocks.{Block, holds}
use Rattle.meaning.specs.Fields.{Packet}
use Rattle.meaning.specs.Form.{Exception, naming, directives_from}
use Rattle.meaning.specs.Policies.{Directive, excepted, asks}
use Rattle.meaning.specs.Records.{some_of}
use Rattle.meaning.specs.Rules.{Action, opposite, same_action, Rule}
use Rattle.meaning.specs.Sizes.{mask_digits, first_owner}
use Rattle.cells.specs.Cells.{free_from, asked_by}
use Rattle.layout.specs.Masks.{mask}
use Rattle.cells.specs.Words.{names_such}
use Rattle.cells.proofs.Freeing.{free_none}
use Rattle.layout.proofs.MaskLaws.{digit, lowest_digit, other_digits, mask_and, mask_some}

digit_is : (b : Bool) → eqb (digit b) 1 ≡ b
digit_is true = refl
digit_is false = refl

module _ {A : Type 0} where
  -- a mask is 0 just if no record passes
  none_passes : (test : A → Bool) (xs : List A) → eqb (mask test xs) 0 ≡ not (some_of test xs)
  none_passes test xs =
      elim (ℕ_discrete (mask test xs) 0) [
        | yes e ↦ eq-eqb (mask test xs) 0 e ∙ ap not (sym (le-ltb 0 (mask test xs) (omega arith)) ∙ mask_some test xs)
        | no e ↦ ne_eqb (mask test xs) 0 e ∙ ap not (sym (lt-ltb 0 (mask test xs) (omega arith)) ∙ mask_some test xs)
      ]

  -- tests that come out the same; one of two; one beside a fixed test; none
  some_each : {f g : A → Bool} → ((x : A) → f x ≡ g x) → (xs : List A) → some_of f xs ≡ some_of g xs
  unfolding some_of
  some_each same [] = refl
  some_each same (x ∷ xs) = λ i. same x i || some_each same xs i

  some_or : (f g : A → Bool) (xs : List A) → some_of (λ (x : A). f x || g x) xs ≡ (some_of f xs || some_of g xs)
  unfolding some_of
  some_or f g [] = refl
  some_or f g (x ∷ xs) = ap (λ (b : Bool). f x || g x || b) (some_or f g xs) ∙ by (f x) (g x) (some_of f xs) (some_of g xs)
    where
      by : (a b c d : Bool) → (a || b || (c || d)) ≡ (a || c || (b || d))
      by true b c d = refl
      by false true true d = refl
      by false true false d = refl
      by false false c d = refl

  some_and : (f : A → Bool) (b : Bool) (xs : List A) → some_of (λ (x : A). f x && b) xs ≡ (some_of f xs && b)
  unfolding some_of
  some_and f b [] = refl
  some_and f b (x ∷ xs) = ap (λ (c : Bool). f x && b || c) (some_and f b xs) ∙ by (f x) b (some_of f xs)
    where
      by : (a c d : Bool) → (a && c || d && c) ≡ ((a || d) && c)
      by true true d = refl
      by true false true = refl
      by true false false = refl
      by false c d = refl

  some_none : (f : A → Bool) (xs : List A) → some_of (λ (x : A). f x && false) xs ≡ false
  unfolding some_of
  some_none f [] = refl
  some_none f (x ∷ xs) = ap (λ (b : Bool). f x && false || b) (some_none f xs) ∙ by (f x)
    where
      by : (a : Bool) → (a && false || false) ≡ false
      by true = refl
      by false = refl

-- the word of a directive is the mask of its exceptions
abbrev Owned : List ℕ → List Exception → ℕ → Type 0
Owned words es j = get_or words (first_owner + j) 0 ≡ mask (λ (e : Exception). eqb e.directive (suc j)) es

-- it is, under another number
owned_at : (words : List ℕ) (es : List Exception) (j k : ℕ) → k ≡ j → Owned words es k → Owned words es j
owned_at words es j k e h = subst (λ (i : ℕ). Owned words es i) e h

module _ (p : Packet) where
  -- the exception holds p
  abbrev pub at_exception : Exception → Bool
  at_exception e = holds e.block p

  -- an exception of directive n holds p
  named_some : (n : ℕ) (es : List Exception)
      → some_of (λ (e : Exception). at_exception e && eqb e.directive n) es ≡ some_of (λ (b : Block). holds b p) (naming n es)
  unfolding some_of naming
  named_some n [] = refl
  named_some n (e ∷ es) =
      ap (λ (b : Bool). at_exception e && eqb e.directive n || b) (named_some n es) ∙ by (at_exception e) (eqb e.directive n) refl
    where
      by : (h named : Bool) → at_exception e ≡ h
          → (h && named || some_of (λ (b : Block). holds b p) (naming n es))
          ≡ some_of (λ (b : Block). holds b p) (cond named (e.block ∷ naming n es) (naming n es))
      by true true same = sym (ap (λ (b : Bool). b || some_of (λ (b : Block). holds b p) (naming n es)) same)
      by true false same = refl
      by false true same = sym (ap (λ (b : Bool). b || some_of (λ (b : Block). holds b p) (naming n es)) same)
      by false false same = refl

  -- none does
  named_none : (n : ℕ) (es : List Exception)
      → eqb (bit_and (mask at_exception es) (mask (λ (e : Exception). eqb e.directive n) es)) 0 ≡ not (some_of (λ (b : Block). holds b p) (naming n es))
  named_none n es =
      ap (λ (m : ℕ). eqb m 0) (mask_and at_exception (λ (e : Exception). eqb e.directive n) es)
      ∙ none_passes (λ (e : Exception). at_exception e && eqb e.directive n) es
      ∙ ap not (named_some n es)

  module _ (test : Action → Block → Bool) (words : List ℕ) (es : List Exception) where
    -- a directive that passes a test, and of which no exception holds p
    free_directive : (m t : ℕ) (ds : List Rule) → length ds ≤ m
        → ((j : ℕ) → j < length ds → Owned words es (t + j))
        → free_from m t words (mask at_exception es) (mask (λ (d : Rule). test d.action d.block) ds)
        ≡ some_of (λ (d : Directive). test d.action d.block && not (excepted d p)) (directives_from (suc t) ds es)
    unfolding mask free_from some_of directives_from excepted
    free_directive m t [] h each = free_none m t words (mask at_exception es)
    free_directive zero t (d ∷ ds) h each = absurd (omega arith)
    free_directive (suc m) t (d ∷ ds) h each =
        let own : Owned words es t = owned_at words es t (t + 0) (omega arith) (each 0 (omega arith)) in
        let later = free_directive m (t + 1) ds (omega arith) (λ j l. owned_at words es (t + 1 + j) (t + suc j) (omega arith) (each (suc j) (omega arith))) in
        let free : Directive → Bool = λ r. test r.action r.block && not (excepted r p) in
        rw (lowest_digit (test d.action d.block) (mask (λ (r : Rule). test r.action r.block) ds))
        (rw (other_digits (test d.action d.block) (mask (λ (r : Rule). test r.action r.block) ds))
        (rw own
        (rw (digit_is (test d.action d.block))
        (rw (named_none (suc t) es)
        (ap (λ (b : Bool). test d.action d.block && not (some_of (λ (b : Block). holds b p) (naming (suc t) es)) || b)
        (later ∙ ap (λ (k : ℕ). some_of free (directives_from (suc k) ds es)) (add-one t)))))))

  -- an exception that holds p, of a directive whose action passes a test
  exception_asks : (test : Action → Bool) (n : ℕ) (ds : List Rule) (es : List Exception)
      → some_of (λ (e : Exception). at_exception e && names_such (λ (d : Rule). test d.action) n ds e.directive) es
      ≡ some_of (λ (d : Directive). excepted d p && test d.action) (directives_from n ds es)
  unfolding names_such directives_from excepted some_of
  exception_asks test n [] es = some_none at_exception es
  exception_asks test n (d ∷ ds) es =
      some_each (λ e. by (at_exception e) (eqb e.directive n) (test d.action) (names_such (λ (r : Rule). test r.action) (suc n) ds e.directive)) es
      ∙ some_or (λ (e : Exception). at_exception e && eqb e.directive n && test d.action)
      (λ (e : Exception). at_exception e && names_such (λ (r : Rule). test r.action) (suc n) ds e.directive) es
      ∙ (λ i.
      (some_and (λ (e : Exception). at_exception e && eqb e.directive n) (test d.action) es
      ∙ ap (λ (b : Bool). b && test d.action) (named_some n es))
      i
      || exception_asks test (suc n) ds es i)
    where
      by : (h a c r : Bool) → (h && (a && c || r)) ≡ (h && a && c || h && r)
      by true a c r = refl
      by false a c r = refl

  -- a directive asks by its exceptions, or without them by itself
  split_asks : (a : Action) (d : Directive)
      → asks d a p ≡ (excepted d p && same_action a (opposite d.action) || (same_action a d.action && holds d.block p) && not (excepted d p))
  unfolding asks
  split_asks a d = by (excepted d p) (same_action a (opposite d.action)) (same_action a d.action && holds d.block p)
    where
      by : (x o s : Bool) → cond x o s ≡ (x && o || s && not x)
      by true true s = refl
      by true false true = refl
      by true false false = refl
      by false o true = refl
      by false o false = refl

  -- what is asked for, by masks
  pub asked_by_masks : (a : Action) (words : List ℕ) (ds : List Rule) (es : List Exception) (turning own : ℕ) → length ds ≤ mask_digits
      → ((j : ℕ) → j < length ds → get_or words (first_owner + j) 0 ≡ mask (λ (e : Exception). eqb e.directive (suc j)) es)
      → turning ≡ mask (λ (e : Exception). names_such (λ (d : Rule). same_action a (opposite d.action)) 1 ds e.directive) es
      → own ≡ mask (λ (d : Rule). same_action a d.action && holds d.block p) ds
      → asked_by words (mask at_exception es) turning own ≡ some_of (λ (d : Directive). asks d a p) (directives_from 1 ds es)
  unfolding asked_by
  asked_by_masks a words ds es turning own few each is_turning is_own =
      let turns : Exception → Bool = λ e. names_such (λ (d : Rule). same_action a (opposite d.action)) 1 ds e.directive in
      let turned : Directive → Bool = λ d. excepted d p && same_action a (opposite d.action) in
      let free : Directive → Bool = λ d. (same_action a d.action && holds d.block p) && not (excepted d p) in
      let by_exceptions =
      ap (λ (m : ℕ). ltb 0 (bit_and (mask at_exception es) m)) is_turning
      ∙ ap (ltb 0) (mask_and at_exception turns es)
      ∙ mask_some (λ (e : Exception). at_exception e && turns e) es
      ∙ exception_asks (λ (b : Action). same_action a (opposite b)) 1 ds es in
      let by_itself =
      ap (free_from mask_digits 0 words (mask at_exception es)) is_own
      ∙ free_directive (λ (b : Action) (c : Block). same_action a b && holds c p) words es mask_digits 0 ds few
      (λ j l. owned_at words es (0 + j) j (omega arith) (each j l)) in
      (λ i. by_exceptions i || by_itself i)
      ∙ sym (some_or turned free (directives_from 1 ds es))
      ∙ sym (some_each (split_asks a) (directives_from 1 ds es))
