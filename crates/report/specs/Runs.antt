-- "One whole run": what is printed for two files.
use Rattle.std.specs.Prelude.{Option, Some, None, List, [], ◌∷◌, ◌++◌, ◌≡◌, ℕ, length, take}
use Rattle.std.specs.Borrow.{Bor}
use Rattle.meaning.specs.Labels.{Label, kind, rule}
use Rattle.meaning.specs.Listings.{Listed}
use Rattle.meaning.specs.Verdicts.{Verdict}
use Rattle.parts.specs.Words.{bytes}
use Rattle.sets.specs.declared.Policy.{Policy}
use Rattle.sets.specs.declared.Rules.{Rules}
use Rattle.sets.specs.Vocabulary.{refused_of}
use Rattle.rule_text.specs.RuleTexts.{read_rules, rules_told}
use Rattle.policy_text.specs.PolicyTexts.{read_policy, policy_told}
use Rattle.findings.specs.Found.{VerdictFor, ListingFor}
use Rattle.printing.specs.Lines.{verdict_line, blocks_line, block_line, refused_line, unreadable_line}
use Rattle.putting.specs.Putting.{Put}

-- a file: its bytes, unless it cannot be opened or read
pub data File : Type 0 where
  unreadable : File
  holding : List ℕ → File

-- the file of which this was read, if it could be
abbrev pub file_of : Option (Bor (List ℕ)) → File
file_of (Some text) = holding text.now
file_of None = unreadable

-- the names of the two
abbrev pub rules_name : List ℕ
rules_name = bytes "rules.txt"

abbrev pub policy_name : List ℕ
policy_name = bytes "policy.txt"

-- "At most 512 block lines."
abbrev pub most_block_lines : ℕ
most_block_lines = 512

-- the room that no output exceeds (output-fits)
abbrev pub most_output : ℕ
most_output = 262_144

-- a line for each block, in order
abbrev pub block_lines : List (Listed Label) → List ℕ
block_lines [] = []
block_lines (b ∷ bs) = block_line (kind b.label) (rule b.label) b.block ++ block_lines bs

-- what is printed for sets: the verdict, the total, and the first blocks of the listing
pub record SetsPrinted (rules : Rules) (policy : Policy) (text : List ℕ) : Type 0 where
  pub verdict : Verdict
  pub judged : VerdictFor rules policy verdict
  pub blocks : List (Listed Label)
  pub listed : ListingFor rules policy blocks
  pub printed : text ≡ verdict_line verdict ++ (blocks_line (length blocks) ++ block_lines (take most_block_lines blocks))

-- what is printed for two texts: "A refusal prints one line and nothing else"; "if both texts are refused, the one for `rules.txt`"
pub record TextsPrinted (rules policy text : List ℕ) : Type 0 where
  pub rules_refused : ¬ ((refused_of (read_rules rules)).number ≡ 0) → text ≡ refused_line rules_name (refused_of (read_rules rules))
  pub policy_refused : (refused_of (read_rules rules)).number ≡ 0 → ¬ ((refused_of (read_policy policy)).number ≡ 0)
      → text ≡ refused_line policy_name (refused_of (read_policy policy))
  pub both_read : (refused_of (read_rules rules)).number ≡ 0 → (refused_of (read_policy policy)).number ≡ 0
      → SetsPrinted (rules_told (read_rules rules)) (policy_told (read_policy policy)) text

-- what is printed for two files: "If a file cannot be opened or read, only `unreadable` and the first such file's name, before any
-- refusal."
abbrev pub Printed : File → File → List ℕ → Type 0
Printed unreadable policy text = text ≡ unreadable_line rules_name
Printed (holding rules) unreadable text = text ≡ unreadable_line policy_name
Printed (holding rules) (holding policy) text = TextsPrinted rules policy text

-- it stands at the front of a buffer, as far as there is room
pub record Reported (rules policy : File) (before after : List ℕ) (end : ℕ) : Type 0 where
  pub text : List ℕ
  pub printed : Printed rules policy text
  pub put : Put before 0 text after end
