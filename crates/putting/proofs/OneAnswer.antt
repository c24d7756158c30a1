-- For each public call: its contract leaves one place, and of the lent buffer one content. Assumes nothing.
use mathlib.Core.Path.{◌≡◌, refl, sym, ◌∙◌}
use mathlib.Core.List.{List}
use Prim.Native.Nat.{ℕ}
use Rattle.contracts.specs.Answers.{OneOutcome}
use Rattle.putting.specs.Putting.{Put, PutOn}
use Rattle.putting.specs.declared.Output.{Output}
use Rattle.putting.proofs.Output.put_byte.Reads as put_byte_call
use Rattle.putting.proofs.Output.put_bytes.Reads as put_bytes_call
use Rattle.putting.proofs.Output.put_decimal.Reads as put_decimal_call
use Rattle.putting.proofs.Output.put_quad.Reads as put_quad_call

-- a text put into a buffer at a place leaves one place behind it and one content
pub one_put : {before text after after' : List ℕ} {start r s : ℕ} → Put before start text after r → Put before start text after' s → (r ≡ s) × (after ≡ after')
one_put p q = (p.behind ∙ sym q.behind, p.stored ∙ sym q.stored)

-- the same of an output
abbrev pub left : Output → ℕ × List ℕ
left o = (o.at, o.bytes.now)

pub one_put_on : {before after after' : Output} {text : List ℕ} → PutOn before text after → PutOn before text after' → left after ≡ left after'
one_put_on p q = let e = one_put p.put q.put in λ i. (e.0 i, e.1 i)

pub put_byte_once : OneOutcome (λ after. left after.0.now) (put_byte_call.Post)
put_byte_once κs a r s after after' p q = (refl, one_put_on p q)

pub put_bytes_once : OneOutcome (λ after. left after.0.now) (put_bytes_call.Post)
put_bytes_once κs a r s after after' p q = (refl, one_put_on p q)

pub put_decimal_once : OneOutcome (λ after. left after.0.now) (put_decimal_call.Post)
put_decimal_once κs a r s after after' p q = (refl, one_put_on p q)

pub put_quad_once : OneOutcome (λ after. left after.0.now) (put_quad_call.Post)
put_quad_once κs a r s after after' p q = (refl, one_put_on p q)
