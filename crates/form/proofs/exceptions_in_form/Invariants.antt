-- The invariant: all exceptions are in form just if those left are, after one that named `before`. Assumes nothing.
use mathlib.Core.List.{map}
use mathlib.Core.Path.{◌≡◌}
use lib.ListN.{drop}
use Rattle.meaning.specs.Fields.{fields}
use Rattle.meaning.specs.Form.{exceptions_in_form}
use Rattle.sets.specs.Inner.{directives_of, exceptions_of}
use Rattle.sets.specs.Vocabulary.{directive_of, exception_of}
use Rattle.form.proofs.exceptions_in_form.Given as goal

abbrev pub invariant-loop-exception : goal.invariant-loop-exception
invariant-loop-exception l =
    exceptions_in_form fields (directives_of l.fn.policy) 0 (exceptions_of l.fn.policy)
    ≡ exceptions_in_form fields (map directive_of l.directives) l.before (map exception_of (drop l.exception-index l.exception-items))
