-- Words of the papers as bytes.
use mathlib.Core.List as list
use Prim.Native.Char.{code}
use Rattle.std.specs.Prelude.{ℕ}
use Prim.Native.String.{String, [], ◌∷◌}

-- the bytes of a word
abbrev pub bytes : String → list.List ℕ
bytes [] = list.[]
bytes (c ∷ word) = list.◌∷◌ (code c) (bytes word)

-- the bytes that part a text, a line and a field
abbrev pub newline : ℕ
newline = code "\n"

abbrev pub tab : ℕ
tab = code "\t"

abbrev pub slash : ℕ
slash = code "/"

abbrev pub minus : ℕ
minus = code "-"

abbrev pub dot : ℕ
dot = code "."
