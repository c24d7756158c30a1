-- The label that is given by the rules, directives and exceptions that hold a packet is the packet's label. Assumes nothing.
use mathlib.Core.Path.{◌≡◌, refl, ap, ◌∙◌}
use mathlib.Core.Bool.{Bool, true, false, not, ◌&&◌, ◌||◌}
use mathlib.Core.List.{List, [], ◌∷◌}
use Prim.Native.Nat.{ℕ, suc, ◌≤◌}
use lib.Bits.{bit_and, bit_xor}
use lib.Dec.{eqb}
use lib.ListN.{length, get_or}
use Rattle.meaning.specs.Blocks.{holds}
use Rattle.meaning.specs.Fields.{Packet}
use Rattle.meaning.specs.Form.{Exception, directives_from}
use Rattle.meaning.specs.Labels.{judged, label}
use Rattle.meaning.specs.Policies.{Directive, asks, asked}
use Rattle.meaning.specs.Records.{some_of}
use Rattle.meaning.specs.Rules.{Action, accept, deny, opposite, same_action, Rule, deciding}
use Rattle.meaning.specs.Sizes.{mask_digits, accepting_rules, of_accepting, of_denying}
use Rattle.meaning.proofs.RecordsEvery.{every_of}
use Rattle.cells.specs.declared.Left.{Left}
use Rattle.cells.specs.Cells.{label_by, accepting, accept_asked, deny_asked, left_label}
use Rattle.layout.specs.Masks.{mask}
use Rattle.cells.specs.Words.{accepts, names_such, WordsOf}
use Rattle.cells.proofs.AskingDirectives.{asked_by_masks}
use Rattle.cells.proofs.FirstRules.{judged_bared, decided, bared, first_decided}
use Rattle.layout.proofs.MaskLaws.{mask_same, mask_and, mask_xor, one_of}

-- what is left where all that holds p is left
abbrev pub left_at_packet : List Rule → List Rule → List Exception → Packet → Left
left_at_packet rules directives exceptions p =
    record {
      rules = mask (λ (r : Rule). holds r.block p) rules;
      directives = mask (λ (d : Rule). holds d.block p) directives;
      exceptions = mask (λ (e : Exception). holds e.block p) exceptions;
    }

module _
    (rules directives : List Rule)
    (exceptions : List Exception)
    (words : List ℕ)
    (p : Packet)
    (few_rules : length rules ≤ mask_digits)
    (few_directives : length directives ≤ mask_digits)
    (front : WordsOf rules directives exceptions words)
  where
    abbrev all : List Directive
    all = directives_from 1 directives exceptions

    abbrev here : Left
    here = left_at_packet rules directives exceptions p

    -- the directives that hold p and ask for accept, and for deny
    own_accept : accepting words here ≡ mask (λ (d : Rule). same_action accept d.action && holds d.block p) directives
    own_accept =
        ap (bit_and here.directives) front.accepting_directives_word
        ∙ mask_and (λ (d : Rule). holds d.block p) accepts directives
        ∙ mask_same (every_of (λ d. by (holds d.block p) (accepts d)) directives)
      where
        by : (h a : Bool) → (h && a) ≡ (a && h)
        by true true = refl
        by true false = refl
        by false true = refl
        by false false = refl

    own_deny : bit_xor here.directives (accepting words here) ≡ mask (λ (d : Rule). same_action deny d.action && holds d.block p) directives
    unfolding same_action
    own_deny =
        ap (bit_xor here.directives) own_accept
        ∙ mask_xor (λ (d : Rule). holds d.block p) (λ (d : Rule). same_action accept d.action && holds d.block p) directives
        ∙ mask_same (every_of (λ d. by (holds d.block p) d.action) directives)
      where
        by : (h : Bool) (a : Action) → one_of h (same_action accept a && h) ≡ (same_action deny a && h)
        by true accept = refl
        by true deny = refl
        by false accept = refl
        by false deny = refl

    -- the exceptions that turn a directive to accept, and to deny
    turning : (test other : Rule → Bool) → ((d : Rule) → test d ≡ other d) → (n j : ℕ) (ds : List Rule) → names_such test n ds j ≡ names_such other n ds j
    unfolding names_such
    turning test other same n j [] = refl
    turning test other same n j (d ∷ ds) = λ i. (eqb j n && same d i) || turning test other same (suc n) j ds i

    turned : (a : Action) (word : ℕ) (test : Rule → Bool) → word ≡ mask (λ (e : Exception). names_such test 1 directives e.directive) exceptions
        → ((d : Rule) → test d ≡ same_action a (opposite d.action))
        → word ≡ mask (λ (e : Exception). names_such (λ (d : Rule). same_action a (opposite d.action)) 1 directives e.directive) exceptions
    turned a word test is same =
        is ∙ mask_same (every_of (λ e. turning test (λ (d : Rule). same_action a (opposite d.action)) same 1 e.directive directives) exceptions)

    accept_is : accept_asked words here ≡ some_of (λ (d : Directive). asks d accept p) all
    unfolding same_action opposite
    accept_is =
        asked_by_masks p accept words directives exceptions (get_or words of_denying 0) (accepting words here) few_directives front.of_each
        (turned accept (get_or words of_denying 0) (λ (d : Rule). not (accepts d)) front.of_denying_word (λ d. by d.action)) own_accept
      where
        by : (a : Action) → not (same_action accept a) ≡ same_action accept (opposite a)
        by accept = refl
        by deny = refl

    deny_is : deny_asked words here ≡ some_of (λ (d : Directive). asks d deny p) all
    unfolding same_action opposite
    deny_is =
        asked_by_masks p deny words directives exceptions (get_or words of_accepting 0) (bit_xor here.directives (accepting words here)) few_directives front.of_each
        (turned deny (get_or words of_accepting 0) accepts front.of_accepting_word (λ d. by d.action)) own_deny
      where
        by : (a : Action) → same_action accept a ≡ same_action deny (opposite a)
        by accept = refl
        by deny = refl

    first_is : decided mask_digits 1 here.rules (bit_and here.rules (get_or words accepting_rules 0)) ≡ bared (deciding rules p)
    unfolding deciding
    first_is =
        ap (decided mask_digits 1 here.rules) (ap (bit_and here.rules) front.accepting_rules_word ∙ mask_and (λ (r : Rule). holds r.block p) accepts rules)
        ∙ first_decided mask_digits 1 (λ (r : Rule). holds r.block p) rules few_rules

    pub packet_label : left_label words here ≡ label rules (record { directives = all }) p
    unfolding left_label label_by label asked
    packet_label =
        (λ i. judged (accept_is i) (deny_is i) (first_is i))
        ∙ judged_bared (asked (record { directives = all }) accept p) (asked (record { directives = all }) deny p) (deciding rules p)
