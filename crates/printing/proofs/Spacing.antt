-- Fields put one behind the other, a space before each, are the joined fields put. Assumes nothing.
use mathlib.Core.Path.{◌≡◌, refl, sym, ap, ◌∙◌, subst}
use mathlib.Core.List.{List, [], ◌∷◌, ◌++◌, map, append_assoc, append-nil}
use Prim.Native.Char.{code}
use Prim.Native.Nat.{ℕ, ◌+◌, ◌<◌}
use lib.ListN.{length, take, get_or}
use Rattle.std.proofs.lemmas.List.{map-append, take_more}
use Rattle.putting.specs.declared.Output.{Output}
use Rattle.putting.specs.Putting.{PutOn}
use Rattle.putting.proofs.Putting.{on_nothing, on_then, on_same}
use Rattle.printing.specs.declared.Field.{Field}
use Rattle.printing.specs.Inner.{PutFields, spelled}
use Rattle.printing.specs.Lines.{spaced}

-- one space and a field
pub put_field : {before between after : Output} {f : List ℕ} → PutOn before (code " " ∷ []) between → PutOn between f after → PutFields before (f ∷ []) after
put_field {f = f} p q = record { fields = on_same (ap (λ (t : List ℕ). code " " ∷ t) (sym (append-nil f))) (on_then p q) }

-- fields behind fields
spaced_append : (fs gs : List (List ℕ)) → spaced (fs ++ gs) ≡ spaced fs ++ spaced gs
spaced_append [] gs = refl
spaced_append (f ∷ fs) gs = ap (λ (t : List ℕ). (code " " ∷ f) ++ t) (spaced_append fs gs) ∙ sym (append_assoc (code " " ∷ f) (spaced fs) (spaced gs))

pub put_fields : {before between after : Output} {fs gs : List (List ℕ)}
    → PutFields before fs between → PutFields between gs after → PutFields before (fs ++ gs) after
put_fields {fs = fs} {gs = gs} p q = record { fields = on_same (sym (spaced_append fs gs)) (on_then p.fields q.fields) }

-- fields put are others, if they are the same
pub fields_same : {before after : Output} {fs gs : List (List ℕ)} → fs ≡ gs → PutFields before fs after → PutFields before gs after
fields_same {before} {after} same p = subst (λ (fs : List (List ℕ)). PutFields before fs after) same p

-- no fields, and one field more
pub no_fields : (o : Output) → PutFields o [] o
no_fields o = record { fields = on_nothing o }

pub fields_more : (fs : List Field) (i : ℕ) (d : Field) {before between after : Output} → i < length fs
    → PutFields before (map spelled (take i fs)) between → PutFields between (spelled (get_or fs i d) ∷ []) after
    → PutFields before (map spelled (take (i + 1) fs)) after
fields_more fs i d within p q =
    fields_same (sym (ap (map spelled) (take_more fs i d within) ∙ map-append spelled (take i fs) (get_or fs i d ∷ []))) (put_fields p q)
