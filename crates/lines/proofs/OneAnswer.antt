-- For each public call: its contract leaves one answer. Of a call that takes or hands back a reader the prover makes no `Post`;
-- there what the contract tells is read off its `clauses`, by the prover's own rules. Assumes nothing.
use mathlib.Core.Path.{refl}
use borrow.Fn.Claims.{AllOf}
use borrow.Fn.Read.{Read, all_models, no_know, r_last}
use borrow.Fn.World.{In}
use contract.Lifetimes.{Lfts}
use denote.Triple.Clauses.{AtExit}
use denote.Triple.Entry.{Args, Res}
use Rattle.contracts.specs.Answers.{OneAnswer, OneSlice}
use Rattle.contracts.proofs.Answering.{one_answer}
use Rattle.lines.proofs.after.Reads as after_call
use Rattle.lines.proofs.behind.Reads as behind_call
use Rattle.lines.specs.contracts.Lines.current as current
use Rattle.lines.proofs.line_at.Reads as line_at_call
use Rattle.lines.specs.contracts.Lines.next as next

module _ (κs : Lfts 1) (a : Args current.signature κs) (r : Res current.signature κs) (s : AtExit current.ended κs) where
  abbrev current_read : Read (In current.signature κs a) no_know (λ w. (current.clauses w.𝓛 w.𝓜.mem w.𝓡.run κs a).ensures tt r s)
  current_read = all_models _ (λ w. r_last _) (λ w. refl) (λ w. refl) (λ w. refl)

  abbrev pub CurrentPost : Type 0
  CurrentPost = AllOf current_read.tells

pub current_once : OneSlice CurrentPost
current_once κs a r s after after' e f = one_answer _ _ _ e f

module _ (κs : Lfts 1) (a : Args next.signature κs) (r : Res next.signature κs) (s : AtExit next.ended κs) where
  abbrev next_read : Read (In next.signature κs a) no_know (λ w. (next.clauses w.𝓛 w.𝓜.mem w.𝓡.run κs a).ensures tt r s)
  next_read = all_models _ (λ w. r_last _) (λ w. refl) (λ w. refl) (λ w. refl)

  abbrev pub NextPost : Type 0
  NextPost = AllOf next_read.tells

pub next_once : OneAnswer NextPost
next_once κs a r s after after' e f = one_answer _ r s e f

pub line_at_once : OneSlice line_at_call.Post
line_at_once κs a r s after after' e f = one_answer _ _ _ e f

pub after_once : OneAnswer after_call.Post
after_once κs a r s after after' e f = one_answer _ r s e f

pub behind_once : OneAnswer behind_call.Post
behind_once κs a r s after after' e f = one_answer _ r s e f
