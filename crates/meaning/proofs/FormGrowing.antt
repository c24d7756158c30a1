-- Exceptions in form stay in form where a directive is added behind the others, and where an exception is added that is in form
-- itself. Assumes nothing.
use mathlib.Core.List.{List, [], ◌∷◌, ◌++◌}
use mathlib.Core.Option.{some, none-ne-some}
use mathlib.Core.Path.{◌≡◌, refl}
use Prim.Native.Nat.{ℕ, zero, suc, ◌≤◌}
use lib.Dec.{T}
use lib.ListN.{get_elem?}
use Rattle.meaning.specs.Blocks.{inside}
use Rattle.meaning.specs.Form.{Exception, block_in_form, exceptions_in_form}
use Rattle.meaning.specs.Records.{numbered}
use Rattle.meaning.specs.Rules.{Rule}
use Rattle.meaning.proofs.FormLaws.{exception_in_form_iff}

-- the directive that the last exception names, or the one before them all
abbrev pub last_named : ℕ → List Exception → ℕ
last_named before [] = before
last_named before (e ∷ es) = last_named e.directive es

pub last_named_lem : (before : ℕ) (es : List Exception) (e : Exception) → last_named before (es ++ (e ∷ [])) ≡ e.directive
last_named_lem before [] e = refl
last_named_lem before (x ∷ es) e = last_named_lem x.directive es e

module _ {A : Type 0} (more : A) where
  element_still : (xs : List A) (i : ℕ) (x : A) → get_elem? xs i ≡ some x → get_elem? (xs ++ (more ∷ [])) i ≡ some x
  element_still [] i x e = absurd (none-ne-some x e)
  element_still (y ∷ xs) zero x e = e
  element_still (y ∷ xs) (suc i) x e = element_still xs i x e

  -- a record that is numbered keeps its number where one is added
  numbered_still : (xs : List A) (n : ℕ) (x : A) → numbered xs n ≡ some x → numbered (xs ++ (more ∷ [])) n ≡ some x
  unfolding numbered
  numbered_still xs zero x e = e
  numbered_still xs (suc i) x e = element_still xs i x e

module _ (ns : List ℕ) (ds : List Rule) where
  pub directive_added : (d : Rule) (before : ℕ) (es : List Exception) → T (exceptions_in_form ns ds before es) → T (exceptions_in_form ns (ds ++ (d ∷ [])) before es)
  unfolding exceptions_in_form
  directive_added d before [] t = tt
  directive_added d before (e ∷ es) t =
      let w = (exception_in_form_iff ns ds before e es).0 t in
      (exception_in_form_iff ns (ds ++ (d ∷ [])) before e es).1
      (w.0, (w.1.0, numbered_still d ds e.directive w.1.0 w.1.1, w.1.2), w.2, directive_added d e.directive es w.3)

  pub exception_added : (before : ℕ) (es : List Exception) (e : Exception) (d : Rule) → T (exceptions_in_form ns ds before es)
      → last_named before es ≤ e.directive → numbered ds e.directive ≡ some d → T (inside e.block d.block) → T (block_in_form ns e.block)
      → T (exceptions_in_form ns ds before (es ++ (e ∷ [])))
  unfolding exceptions_in_form
  exception_added before [] e d t rises named lies formed = (exception_in_form_iff ns ds before e []).1 (rises, (d, named, lies), formed, t)
  exception_added before (x ∷ es) e d t rises named lies formed =
      let w = (exception_in_form_iff ns ds before x es).0 t in
      (exception_in_form_iff ns ds before x (es ++ (e ∷ []))).1 (w.0, w.1, w.2, exception_added x.directive es e d w.3 rises named lies formed)
