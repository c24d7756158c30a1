-- Words of private contracts; no public contract uses them.
use Rattle.std.specs.Prelude.{List, [], ◌++◌, ℕ, zero, suc, ◌+◌, ◌*◌, length, take, drop, get_or}
use Rattle.meaning.specs.Buffers.{spans_of}
use Rattle.meaning.specs.Labels.{Label}
use Rattle.meaning.specs.Listings.{Listed}
use Rattle.meaning.specs.Sizes.{block_bounds, row_numbers}
use Rattle.meaning.specs.Verdicts.{Verdict}
use Rattle.sets.specs.declared.Policy.{Policy}
use Rattle.sets.specs.declared.Rules.{Rules}
use Rattle.findings.specs.Found.{VerdictFor, ListingFor}
use Rattle.printing.specs.Lines.{verdict_line, blocks_line, block_line}
use Rattle.putting.specs.declared.Output.{Output}
use Rattle.putting.specs.Putting.{PutOn}
use Rattle.report.specs.Runs.{File, Printed, SetsPrinted, most_block_lines, block_lines}

-- what is printed for files is put
pub record FilesPut (rules policy : File) (before after : Output) : Type 0 where
  pub text : List ℕ
  pub printed : Printed rules policy text
  pub put : PutOn before text after

-- what is printed for sets is put
pub record SetsPut (rules : Rules) (policy : Policy) (before after : Output) : Type 0 where
  pub text : List ℕ
  pub printed : SetsPrinted rules policy text
  pub put : PutOn before text after

-- the verdict is put
pub record VerdictPut (rules : Rules) (policy : Policy) (before after : Output) : Type 0 where
  pub verdict : Verdict
  pub judged : VerdictFor rules policy verdict
  pub put : PutOn before (verdict_line verdict) after

-- the total and the first blocks are put
pub record ListingPut (rules : Rules) (policy : Policy) (before after : Output) : Type 0 where
  pub blocks : List (Listed Label)
  pub listed : ListingFor rules policy blocks
  pub put : PutOn before (blocks_line (length blocks) ++ block_lines (take most_block_lines blocks)) after

-- the bounds of a block, from a place on
abbrev pub bounds_at : List ℕ → ℕ → List ℕ
bounds_at rows from = take block_bounds (drop from rows)

-- the row from a place on as a block's line
unfoldable pub row_line : List ℕ → ℕ → List ℕ
row_line rows from = block_line (get_or rows from 0) (get_or rows (from + 1) 0) (spans_of (bounds_at rows (from + 2)))

-- the lines of the first rows
abbrev pub row_lines : List ℕ → ℕ → List ℕ
row_lines rows zero = []
row_lines rows (suc k) = row_lines rows k ++ row_line rows (row_numbers * k)
