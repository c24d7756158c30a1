-- Bytes put into a lent buffer.
use Rattle.std.specs.Prelude.{List, ◌≡◌, ℕ, ◌+◌, min, max, length}
use Rattle.std.proofs.lemmas.List.Edits.{sets}
use Rattle.putting.specs.declared.Output.{Output}

-- A text is put from `start` on, as far as there is room; every other byte stays (past the end `sets` does nothing). The place
-- behind what was put is at most the buffer's end, unless `start` is past it already.
pub record Put (before : List ℕ) (start : ℕ) (text after : List ℕ) (place : ℕ) : Type 0 where
  pub stored : after ≡ sets before start text
  pub behind : place ≡ max start (min (start + length text) (length before))

-- a text is put on an output, which goes on lending the same buffer
pub record PutOn (before : Output) (text : List ℕ) (after : Output) : Type 0 where
  pub same : after.bytes.ghost_name ≡ before.bytes.ghost_name
  pub put : Put before.bytes.now before.at text after.bytes.now after.at
