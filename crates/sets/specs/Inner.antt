-- Words of private contracts in the crates above; no public contract uses them.
use Rattle.std.specs.Prelude.{Bool, List, map, take}
use Rattle.meaning.specs.Fields.{fields}
use Rattle.meaning.specs.Form as form
use Rattle.meaning.specs.Rules as rules
use Rattle.sets.specs.Vocabulary.{directive_of, exception_of}
use Rattle.sets.specs.declared.Policy.{Policy}

-- the directives within their count
abbrev pub directives_of : Policy → List rules.Rule
directives_of s = take s.directive_count (map directive_of s.directives)

-- the exceptions within their count
abbrev pub exceptions_of : Policy → List form.Exception
exceptions_of s = take s.exception_count (map exception_of s.exceptions)

-- the test of form for a rule or a directive
abbrev pub in_form : rules.Rule → Bool
in_form r = form.block_in_form fields r.block
