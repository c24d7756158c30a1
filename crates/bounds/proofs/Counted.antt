-- Sets within their limits: how many records and blocks they have within their counts, and that each block has a span for each field. Assumes nothing.
use mathlib.Core.Path.{◌≡◌, refl, ap, ◌∙◌}
use mathlib.Core.List.{List}
use Prim.Native.Nat.{ℕ, ◌+◌, ◌*◌}
use native.Mathlib.Omega.{arith}
use lib.ListN.{length, length-map}
use lib.Seq.{sets}
use Rattle.meaning.specs.Blocks.{Block}
use Rattle.meaning.specs.Form as form
use Rattle.meaning.specs.Records.{Every}
use Rattle.meaning.specs.Rules as rules
use Rattle.meaning.specs.Sizes.{field_count, block_bounds, all_bounds}
use Rattle.meaning.proofs.RecordsEvery.{every_append}
use Rattle.sets.specs.Vocabulary.{rule_of, directive_of, exception_of}
use Rattle.sets.specs.declared.Policy.{Policy}
use Rattle.sets.specs.declared.Rules.{Rules}
use Rattle.bounds.specs.Spans.{numbers_of}
use Rattle.bounds.proofs.BlockSpans.{length_numbers}
use Rattle.bounds.specs.SetBlocks.{Limited, rules_of, rule_blocks, directive_blocks, exception_blocks, all_blocks}
use Rattle.sets.specs.Inner.{directives_of, exceptions_of}
use Rattle.bounds.specs.Spans.{InFront}
use Rattle.bounds.proofs.Storing.{blocks_in_front}
use Rattle.bounds.proofs.Within.{every_made, length_within}

-- a block with a span for each field
abbrev pub Shaped : Block → Type 0
Shaped b = length b ≡ field_count

-- every rule's block has
pub rules_shaped : (r : Rules) → Every Shaped (rule_blocks r)
rules_shaped r = every_made rule_of (λ (x : rules.Rule). x.block) {P = Shaped} (λ a. refl) r.records r.count

-- every directive's has
pub directives_shaped : (p : Policy) → Every Shaped (directive_blocks p)
directives_shaped p = every_made directive_of (λ (x : rules.Rule). x.block) {P = Shaped} (λ a. refl) p.directives p.directive_count

-- every exception's has
pub exceptions_shaped : (p : Policy) → Every Shaped (exception_blocks p)
exceptions_shaped p = every_made exception_of (λ (x : form.Exception). x.block) {P = Shaped} (λ a. refl) p.exceptions p.exception_count

-- every block has
pub all_shaped : (r : Rules) (p : Policy) → Every Shaped (all_blocks r p)
all_shaped r p = every_append (every_append (rules_shaped r) (directives_shaped p)) (exceptions_shaped p)

-- the sets have a record for each place up to their limits
pub record Full (r : Rules) (p : Policy) : Type 0 where
  pub rules_full : length r.records ≡ form.most_rules
  pub directives_full : length p.directives ≡ form.most_directives
  pub exceptions_full : length p.exceptions ≡ form.most_exceptions

module _ {r : Rules} {p : Policy} (limited : Limited r p) (full : Full r p) where
  -- as many rules within the count as the count says
  pub rules_counted : length (rules_of r) ≡ r.count
  rules_counted = length_within rule_of r.records r.count (omega (arith, limited.few_rules, full.rules_full))

  -- as many directives
  pub directives_counted : length (directives_of p) ≡ p.directive_count
  directives_counted =
      length_within directive_of p.directives p.directive_count
      (omega (arith, limited.few_directives, full.directives_full))

  -- as many exceptions
  pub exceptions_counted : length (exceptions_of p) ≡ p.exception_count
  exceptions_counted =
      length_within exception_of p.exceptions p.exception_count
      (omega (arith, limited.few_exceptions, full.exceptions_full))

  -- as many blocks of rules
  pub rule_blocks_counted : length (rule_blocks r) ≡ r.count
  rule_blocks_counted = length-map (rules_of r) (λ (x : rules.Rule). x.block) ∙ rules_counted

  -- as many blocks of directives
  pub directive_blocks_counted : length (directive_blocks p) ≡ p.directive_count
  directive_blocks_counted = length-map (directives_of p) (λ (x : rules.Rule). x.block) ∙ directives_counted

  -- as many blocks of exceptions
  pub exception_blocks_counted : length (exception_blocks p) ≡ p.exception_count
  exception_blocks_counted = length-map (exceptions_of p) (λ (x : form.Exception). x.block) ∙ exceptions_counted

  -- the bounds of rules, directives and exceptions stored one after the other stand in front of the array
  pub all_in_front : (l one two three : List ℕ) → length l ≡ all_bounds
      → one ≡ sets l 0 (numbers_of (rule_blocks r))
      → two ≡ sets one (block_bounds * r.count) (numbers_of (directive_blocks p))
      → three ≡ sets two (block_bounds * (r.count + p.directive_count)) (numbers_of (exception_blocks p))
      → InFront (all_blocks r p) three
  all_in_front l one two three long is_one is_two is_three =
      blocks_in_front l (rule_blocks r) (directive_blocks p) (exception_blocks p) r.count p.directive_count p.exception_count
      (length_numbers (rules_shaped r) ∙ ap (λ (k : ℕ). block_bounds * k) rule_blocks_counted)
      (length_numbers (directives_shaped p) ∙ ap (λ (k : ℕ). block_bounds * k) directive_blocks_counted)
      (length_numbers (exceptions_shaped p) ∙ ap (λ (k : ℕ). block_bounds * k) exception_blocks_counted)
      (omega (arith, limited.few_rules, limited.few_directives, limited.few_exceptions))
      one two three is_one is_two is_three
