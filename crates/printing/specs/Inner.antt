-- Words of private contracts; no public contract uses them.
use Rattle.std.specs.Prelude.{List, ℕ}
use Rattle.putting.specs.declared.Output.{Output}
use Rattle.putting.specs.Putting.{PutOn}
use Rattle.putting.specs.Spelling.{decimal, quad}
use Rattle.printing.specs.Lines.{spaced}
use Rattle.printing.specs.declared.Field.TheVariants.{Word, Address, Number, Total}
use Rattle.printing.specs.declared.Field.{Field}

-- fields are put, one space before each
pub record PutFields (before : Output) (fs : List (List ℕ)) (after : Output) : Type 0 where
  pub fields : PutOn before (spaced fs) after

-- a field's bytes
abbrev pub spelled : Field → List ℕ
spelled (Word w) = w.now
spelled (Address a) = quad a
spelled (Number n) = decimal n
spelled (Total n) = decimal n
