-- Words of private contracts; no public contract uses them. And the law of reading line by line, which the `impl` cites.
use Rattle.std.specs.Prelude.{List, [], ℕ, ◌+◌, ◌≡◌, refl, set}
use Rattle.blocks.specs.declared.Block.{Block}
use Rattle.sets.specs.Empty.{zero_block, empty_policy}
use Rattle.sets.specs.declared.Directive.{Directive}
use Rattle.sets.specs.declared.Policy.{Policy}
use Rattle.texts.specs.Texts.{Said, goes, stops}
use Rattle.policy_text.specs.PolicyTexts.{policy_line, on_policy_line}
use Rattle.policy_text.specs.declared.PolicyRead.{PolicyRead}

-- the set with one directive more
abbrev pub ask_added : Policy → Directive → Policy
ask_added p d =
    record {
      directive_count = p.directive_count + 1;
      directives = set p.directives p.directive_count d;
      exception_count = p.exception_count;
      exceptions = p.exceptions;
    }

-- the set with one exception more, of its last directive
abbrev pub but_added : Policy → Block → Policy
but_added p b =
    record {
      directive_count = p.directive_count;
      directives = p.directives;
      exception_count = p.exception_count + 1;
      exceptions = set p.exceptions p.exception_count (record { directive = p.directive_count; block = b });
    }

-- nothing is read yet
abbrev pub nothing_read : PolicyRead
nothing_read = record { policy = empty_policy; above = zero_block }

-- what a line makes of the policy read so far, and of the block of the nearest directive
abbrev pub line_said : PolicyRead → List ℕ → Said PolicyRead
line_said read line =
    on_policy_line (policy_line read.policy.directive_count read.policy.exception_count read.above line)
    (goes read)
    (λ d. goes (record { policy = ask_added read.policy d; above = d.block }))
    (λ b. goes (record { policy = but_added read.policy b; above = read.above }))
    stops

-- an empty line says nothing
pub none_said : (read : PolicyRead) → line_said read [] ≡ goes read
unfolding policy_line
none_said read = refl
