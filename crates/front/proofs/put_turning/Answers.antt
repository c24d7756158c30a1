use mathlib.Core.List.{List}
use mathlib.Core.Path.{◌≡◌, sym, ap, ◌∙◌}
use Prim.Native.Nat.{ℕ, ◌-◌, ◌<◌}
use native.Mathlib.Omega.{arith}
use borrow.Author.Rules.{rules}
use lib.ListN.{length, take, drop, length-drop}
use lib.Seq.{get_or-drop, length-take-le, take_all}
use Rattle.std.proofs.lemmas.List.{length_push}
use Rattle.std.proofs.lemmas.Slice.Zip.{zip_turn}
use Rattle.std.specs.Iterator.Adapters.{zip_second}
use Rattle.std.specs.Slice.Iter.{iter_rest}
use Rattle.meaning.specs.Form.{most_directives}
use Rattle.meaning.specs.Sizes.{first_owner}
use Rattle.sets.proofs.Walks.{length_of_map}
use Rattle.front.proofs.FrontWords.{turned_accept, turned_deny, turned_start}
use Rattle.front.proofs.put_turning.Goals as goal

-- what stands behind the first words
behind : (at : ℕ) (words : List ℕ) → take (length words - at) (drop at words) ≡ drop at words
behind at words = take_all (length words - at) (drop at words) (omega (arith, length-drop at words))

pub loop-directive-init : goal.loop-directive-init
loop-directive-init c = turned_start _

pub loop-directive-preserved-then-accepts : goal.loop-directive-preserved-then-accepts
loop-directive-preserved-then-accepts c =
    let policy = c.args.policy in
    let words = c.args.words.now in
    let full : length policy.directives ≡ most_directives = search (rules, length_of_map) in
    let so_many = length-take-le policy.directive_count policy.directives (omega (arith, full)) in
    let turn =
    zip_turn (take policy.directive_count policy.directives) (drop first_owner words) _ _ c.loop-directive.directive-iterator c.next.new.self _ (cc)
    (ap (λ z. iter_rest (zip_second z)) c.into_iter-directive-iterator.ensures.into_iter_gives ∙ c.zip-directive-items.ensures.second.0 ∙ behind first_owner words)
    c.loop-directive.yielded_by _ c.in-Some.is c.next.ensures.steps in
    let i = length c.loop-directive.yielded in
    let below : i < policy.directive_count = omega (arith, turn.0, so_many) in
    let own = turn.3 0 ∙ get_or-drop first_owner words i 0 ∙ c.requires.2 i below in
    rw (length_push c.loop-directive.yielded (c.in-Some.directive, c.in-Some.own))
    (turned_accept policy (omega (arith, full)) i _ _ _ _ below (turn.2 _) own c.loop-directive.invariant (sym c.accepts.ensures ∙ c.if-accepts.true))

pub loop-directive-preserved : goal.loop-directive-preserved
loop-directive-preserved c =
    let policy = c.args.policy in
    let words = c.args.words.now in
    let full : length policy.directives ≡ most_directives = search (rules, length_of_map) in
    let so_many = length-take-le policy.directive_count policy.directives (omega (arith, full)) in
    let turn =
    zip_turn (take policy.directive_count policy.directives) (drop first_owner words) _ _ c.loop-directive.directive-iterator c.next.new.self _ (cc)
    (ap (λ z. iter_rest (zip_second z)) c.into_iter-directive-iterator.ensures.into_iter_gives ∙ c.zip-directive-items.ensures.second.0 ∙ behind first_owner words)
    c.loop-directive.yielded_by _ c.in-Some.is c.next.ensures.steps in
    let i = length c.loop-directive.yielded in
    let below : i < policy.directive_count = omega (arith, turn.0, so_many) in
    let own = turn.3 0 ∙ get_or-drop first_owner words i 0 ∙ c.requires.2 i below in
    rw (length_push c.loop-directive.yielded (c.in-Some.directive, c.in-Some.own))
    (turned_deny policy (omega (arith, full)) i _ _ _ _ below (turn.2 _) own c.loop-directive.invariant (sym c.accepts.ensures ∙ c.if-accepts.false))
