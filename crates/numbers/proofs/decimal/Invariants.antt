-- The invariant: the bytes before the index are digits and make the value. Assumes nothing.
use mathlib.Core.Bool.{true}
use mathlib.Core.Path.{◌≡◌}
use lib.ListN.{drop}
use Rattle.numbers.specs.Decimals.{plain, digits, value}
use Rattle.numbers.proofs.decimal.Given as goal

abbrev pub invariant-loop-byte : goal.invariant-loop-byte
invariant-loop-byte l =
    record {
      begun : plain l.text ≡ true;
      digits_left : digits l.text ≡ digits (drop l.byte-index l.text);
      value_left : value 0 l.text ≡ value l.value (drop l.byte-index l.text);
    }
