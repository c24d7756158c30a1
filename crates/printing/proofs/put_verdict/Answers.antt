-- Field by field, unless the table conforms.
use mathlib.Core.Bool.{true, false}
use mathlib.Core.List.{◌∷◌}
use mathlib.Core.Path.{◌≡◌, refl, ap, ◌∙◌}
use borrow.Author.Rules.{rules}
use lib.Dec.{eqb}
use Rattle.meaning.specs.Labels.{kind}
use Rattle.blocks.specs.Vocabulary.{packet_of}
use Rattle.sets.specs.Vocabulary.{label_of}
use Rattle.sets.specs.declared.Label.{Label}
use Rattle.sets.specs.declared.Label.TheVariants.{Good, Conflict, Wrong, Unasked, UnmetAccept, UnmetDeny}
use Rattle.parts.specs.Words.{bytes}
use Rattle.putting.specs.Spelling.{decimal}
use Rattle.putting.proofs.Putting.{on_same}
use Rattle.printing.specs.Lines.{line, numbers_of, spellings, verdict_line}
use Rattle.printing.proofs.put_verdict.Goals as goal

-- of the labels the good one has kind 0, and no other
good_is_0 : (l : Label) → l ≡ Good → eqb (kind (label_of l)) 0 ≡ true
unfolding kind
good_is_0 l good = ap (λ (m : Label). eqb (kind (label_of m)) 0) good

only_good : (l : Label) → (l ≡ Good → ⊥) → eqb (kind (label_of l)) 0 ≡ false
unfolding kind
only_good Good bad = absurd (bad refl)
only_good Conflict bad = refl
only_good (Wrong n) bad = refl
only_good (Unasked n) bad = refl
only_good UnmetAccept bad = refl
only_good UnmetDeny bad = refl

pub returns-then-eq : goal.returns-then-eq
unfolding verdict_line
returns-then-eq c =
    let good : c.args.label ≡ Good = search rules in
    on_same (simp (good_is_0 c.args.label good)) c.put_line.ensures

pub returns : goal.returns
unfolding verdict_line
returns c =
    let bad : c.args.label ≡ Good → ⊥ = search rules in
    on_same
    ((λ i. line (bytes "verdict") (c.word.ensures i ∷ decimal (c.rule.ensures i) ∷ decimal c.args.accept_directive ∷ decimal c.args.deny_directive ∷ numbers_of spellings (packet_of c.args.packet)))
    ∙ simp (only_good c.args.label bad))
    c.put_line-2.ensures
