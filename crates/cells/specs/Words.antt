-- The words that tell of actions: which rules and directives accept, and which exceptions belong to which directives.
use Rattle.std.specs.Prelude.{Bool, not, ◌&&◌, ◌||◌, false, List, [], ◌∷◌, ◌≡◌, ℕ, suc, ◌+◌, ◌<◌, eqb, length, get_or}
use Rattle.meaning.specs.Form.{Exception}
use Rattle.meaning.specs.Rules.{Rule, accept, same_action}
use Rattle.meaning.specs.Sizes.{first_owner, accepting_rules, accepting_directives, of_accepting, of_denying}
use Rattle.layout.specs.Masks.{mask}

-- a rule accepts; of a directive's record, it asks for accept
abbrev pub accepts : Rule → Bool
accepts r = same_action accept r.action

-- the directive with number j passes a test, where the first has the number n
unfoldable pub names_such : (Rule → Bool) → ℕ → List Rule → ℕ → Bool
names_such test n [] j = false
names_such test n (d ∷ ds) j = (eqb j n && test d) || names_such test (suc n) ds j

-- the front words of a walk for these rules, directives and exceptions
pub record WordsOf (rules directives : List Rule) (exceptions : List Exception) (words : List ℕ) : Type 0 where
  pub accepting_rules_word : get_or words accepting_rules 0 ≡ mask accepts rules
  pub accepting_directives_word : get_or words accepting_directives 0 ≡ mask accepts directives
  pub of_accepting_word : get_or words of_accepting 0 ≡ mask (λ (e : Exception). names_such accepts 1 directives e.directive) exceptions
  pub of_denying_word : get_or words of_denying 0 ≡ mask (λ (e : Exception). names_such (λ (d : Rule). not (accepts d)) 1 directives e.directive) exceptions
  pub of_each : (t : ℕ) → t < length directives → get_or words (first_owner + t) 0 ≡ mask (λ (e : Exception). eqb e.directive (suc t)) exceptions
