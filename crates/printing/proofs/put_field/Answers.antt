-- A space, then the field by its spelling. Assumes nothing.
use mathlib.Core.List.{[], ◌∷◌}
use mathlib.Core.Path.{ap, sym, ◌∙◌}
use Prim.Native.Nat.{ℕ}
use Rattle.putting.specs.Spelling.{decimal}
use Rattle.printing.specs.declared.Field.{Field}
use Rattle.printing.specs.Inner.{spelled}
use Rattle.printing.proofs.Spacing.{fields_same, put_field}
use Rattle.printing.proofs.put_field.Goals as goal

pub returns-in-Word : goal.returns-in-Word
returns-in-Word c = fields_same (ap (λ (f : Field). spelled f ∷ []) (sym c.in-Word.is)) (put_field c.put_byte.ensures c.put_bytes.ensures)

pub returns-in-Address : goal.returns-in-Address
returns-in-Address c = fields_same (ap (λ (f : Field). spelled f ∷ []) (sym c.in-Address.is)) (put_field c.put_byte.ensures c.put_quad.ensures)

pub returns-in-Number : goal.returns-in-Number
returns-in-Number c =
    fields_same (ap (λ (n : ℕ). decimal n ∷ []) c.from.ensures ∙ ap (λ (f : Field). spelled f ∷ []) (sym c.in-Number.is))
    (put_field c.put_byte.ensures c.put_decimal.ensures)

pub returns-in-Total : goal.returns-in-Total
returns-in-Total c = fields_same (ap (λ (f : Field). spelled f ∷ []) (sym c.in-Total.is)) (put_field c.put_byte.ensures c.put_decimal-in-Total.ensures)
