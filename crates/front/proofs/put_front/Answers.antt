-- The two masks, the exceptions of each directive, and of those that accept and that deny. Assumes nothing.
use mathlib.Core.List.{List}
use mathlib.Core.Path.{◌∙◌, ◌≡◌, ap}
use Prim.Native.Nat.{◌+◌, ◌≤◌, ℕ}
use native.Mathlib.Omega.{arith}
use borrow.Author.Rules.{rules}
use lib.ListN.{get_or, length, length-set, set}
use lib.Seq.{length-sets}
use Rattle.meaning.specs.Sizes.{first_owner, all_words, of_accepting, of_denying}
use Rattle.sets.proofs.Walks.{length_of_map}
use Rattle.bounds.proofs.Counted.{Full, directives_counted}
use Rattle.cells.specs.Words.{accepts}
use Rattle.sets.specs.Vocabulary.{rule_of, directive_of}
use Rattle.front.proofs.MaskWithin.{mask_within}
use Rattle.front.proofs.FrontWords.{front_is, owner_word}
use Rattle.front.proofs.put_front.Goals as goal

pub put_turning-requires : goal.put_turning-requires
put_turning-requires c =
    let few = c.requires.limited.few_directives in
    let two = set (set c.args.words.now 0 c.mask.result) 1 c.mask-2.result in
    let long : length two ≡ all_words = simp (length-set, c.requires.words_len) in
    let room : first_owner + c.args.policy.directive_count ≤ length two = omega (arith, few) in (
      few,
      ap length c.put_owners.ensures ∙ simp (length-sets, length-set, c.requires.words_len),
      λ t h. ap (λ (x : List ℕ). get_or x (first_owner + t) 0) c.put_owners.ensures ∙ owner_word _ _ _ room t h,
    )

pub returns : goal.returns
returns c =
    let full : Full c.args.rules c.args.policy = search (rules, length_of_map) in
    let counted = directives_counted c.requires.limited full in
    let turned = c.put_turning.ensures in
    let owners-put = c.put_owners.ensures in
    let words_are = turned.put ∙ ap (λ (x : List ℕ). set (set x of_accepting turned.of_accepting_word) of_denying turned.of_denying_word) owners-put in
    front_is c.args.words.now _ _ _ _ _ _ _ _ _ counted c.requires.limited.few_directives (omega (arith, c.requires.words_len)) words_are
    (mask_within rule_of accepts c.args.rules.records c.args.rules.count (c.mask.ensures (λ r. accepts (rule_of r)) (λ r b gave. search rules)))
    (mask_within directive_of accepts c.args.policy.directives c.args.policy.directive_count
    (c.mask-2.ensures (λ d. accepts (directive_of d)) (λ d b gave. search rules)))
    turned.are_accepting turned.are_denying
