-- Words of private contracts; no public contract uses them.
use Rattle.std.specs.Prelude.{not, List, [], ◌∷◌, ◌≡◌, ℕ, zero, suc, ◌+◌, ◌<◌, eqb, get_or, set}
use Rattle.meaning.specs.Form.{Exception}
use Rattle.meaning.specs.Rules.{Rule}
use Rattle.meaning.specs.Sizes.{first_owner, of_accepting, of_denying}
use Rattle.layout.specs.Masks.{mask}
use Rattle.cells.specs.Words.{accepts, names_such}
use Rattle.sets.specs.Inner.{directives_of, exceptions_of}
use Rattle.sets.specs.declared.Policy.{Policy}

-- the exceptions of each of k directives, of which the first has the number n
unfoldable pub owners_from : ℕ → ℕ → List Exception → List ℕ
owners_from n zero es = []
owners_from n (suc k) es = mask (λ (e : Exception). eqb e.directive n) es ∷ owners_from (suc n) k es

-- of a policy's directives
abbrev pub owners_of : Policy → List ℕ
owners_of p = owners_from 1 p.directive_count (exceptions_of p)

-- they stand behind the words before them
abbrev pub OwnersPut : Policy → List ℕ → Type 0
OwnersPut p words = (t : ℕ) → t < p.directive_count → get_or words (first_owner + t) 0 ≡ mask (λ (e : Exception). eqb e.directive (suc t)) (exceptions_of p)

-- the exceptions of the directives that accept, and of those that deny, are put in their words
pub record TurningPut (p : Policy) (before after : List ℕ) : Type 0 where
  pub of_accepting_word : ℕ
  pub of_denying_word : ℕ
  pub put : after ≡ set (set before of_accepting of_accepting_word) of_denying of_denying_word
  pub are_accepting : of_accepting_word ≡ mask (λ (e : Exception). names_such accepts 1 (directives_of p) e.directive) (exceptions_of p)
  pub are_denying : of_denying_word ≡ mask (λ (e : Exception). names_such (λ (d : Rule). not (accepts d)) 1 (directives_of p) e.directive) (exceptions_of p)
