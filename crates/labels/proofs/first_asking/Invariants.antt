-- The invariant: the lowest directive that asks is the first among those from `place` on. Assumes nothing.
use mathlib.Core.Path.{◌≡◌}
use Rattle.meaning.specs.Form.{policy_of}
use Rattle.meaning.specs.Policies.{lowest_asking}
use Rattle.blocks.specs.Vocabulary.{packet_of}
use Rattle.sets.specs.Inner.{exceptions_of}
use Rattle.sets.specs.Vocabulary.{action_of, policy_set_of}
use Rattle.labels.proofs.Asking.{asking_left}
use Rattle.labels.proofs.first_asking.Given as goal

abbrev pub invariant-loop-place : goal.invariant-loop-place
invariant-loop-place l =
    lowest_asking (policy_of (policy_set_of l.fn.policy)) (action_of l.action) (packet_of l.packet)
    ≡ asking_left l.directives (exceptions_of l.fn.policy) (action_of l.action) (packet_of l.packet) l.place
