-- An action is asked just if a directive that asks for it has a number. Assumes nothing.
use mathlib.Core.Path.{◌∙◌, ap, sym}
use Prim.Native.Nat.{ℕ}
use Rattle.std.specs.Option.{is_some}
use Rattle.std.specs.Prelude.{Option}
use Rattle.meaning.specs.Form.{policy_of}
use Rattle.meaning.specs.Labels as labels
use Rattle.meaning.specs.Rules.{accept, deny}
use Rattle.blocks.specs.Vocabulary.{packet_of}
use Rattle.sets.specs.Vocabulary.{policy_set_of}
use Rattle.labels.proofs.Asking.{asked_by_number}
use Rattle.labels.proofs.label_of.Goals as goal

pub returns : goal.returns
unfolding labels.label
returns c =
    let policy = policy_of (policy_set_of c.args.policy) in
    let p = packet_of c.args.packet in
    let accepting = c.is_some.ensures ∙ ap (λ (n : Option ℕ). is_some n) c.first_asking-accept.ensures ∙ sym (asked_by_number policy accept p) in
    let denying = c.is_some-2.ensures ∙ ap (λ (n : Option ℕ). is_some n) c.first_asking-deny.ensures ∙ sym (asked_by_number policy deny p) in
    c.judge.ensures ∙ simp (c.deciding-decided.ensures, accepting, denying)
