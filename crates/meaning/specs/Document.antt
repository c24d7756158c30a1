-- Document 01's own examples: the sets of its whole run, what that run writes, and its twelve labels.
use Rattle.std.specs.Prelude.{List, [], ◌∷◌, ◌++◌, ℕ, ◌+◌, ◌*◌}
use Rattle.meaning.specs.Blocks.{Span, Block, widest}
use Rattle.meaning.specs.Fields.{Packet, fields, lowest}
use Rattle.meaning.specs.Labels.{Label, good, conflict, wrong, unasked, unmet_accept, unmet_deny}
use Rattle.meaning.specs.Listings.{Listed}
use Rattle.meaning.specs.Policies.{Directive, Policy}
use Rattle.meaning.specs.Rules.{accept, deny, Table}
use Rattle.meaning.specs.Verdicts.{Verdict}

abbrev pub quad : ℕ → ℕ → ℕ → ℕ → ℕ
quad a b c d = ((a * 256 + b) * 256 + c) * 256 + d

abbrev pub range : ℕ → ℕ → Span
range low high = record { low = low; high = high }

abbrev pub only : ℕ → Span
only x = range x x

-- from some sources to some destinations, protocol 6, port 8443
abbrev pub block8443 : Span → Span → Block
block8443 source destination = source ∷ destination ∷ only 6 ∷ only 8443 ∷ []

-- 10.20.0.0/24
abbrev pub handsets : Span
handsets = range (quad 10 20 0 0) (quad 10 20 0 255)

abbrev pub rules : Table
rules =
    record { action = accept; block = block8443 handsets (range (quad 10 30 0 4) (quad 10 30 0 5)) }
    ∷ record { action = accept; block = block8443 (only (quad 10 20 0 9)) (only (quad 10 30 0 6)) }
    ∷ record { action = deny; block = block8443 handsets (only (quad 10 30 0 6)) }
    ∷ []

abbrev pub directive1 : Directive
directive1 =
    record {
      action = accept;
      block = block8443 handsets (range (quad 10 30 0 4) (quad 10 30 0 7));
      exceptions = block8443 handsets (only (quad 10 30 0 6)) ∷ [];
    }

abbrev pub policy : Policy
policy = record { directives = directive1 ∷ [] }

-- verdict wrong 2 0 1 10.20.0.9 10.30.0.6 6 8443
abbrev pub verdict_line : Verdict
verdict_line =
    record {
      label = wrong 2;
      accept_directive = 0;
      deny_directive = 1;
      packet = quad 10 20 0 9 ∷ quad 10 30 0 6 ∷ 6 ∷ 8443 ∷ [];
    }

-- the four `block` lines
abbrev pub block_line : Label → Span → Span → Listed Label
block_line l source destination = record { block = block8443 source destination; label = l }

abbrev pub block_lines : List (Listed Label)
block_lines =
    block_line unmet_accept (range (quad 10 20 0 0) (quad 10 20 0 8)) (only (quad 10 30 0 7))
    ∷ block_line (wrong 2) (only (quad 10 20 0 9)) (only (quad 10 30 0 6))
    ∷ block_line unmet_accept (only (quad 10 20 0 9)) (only (quad 10 30 0 7))
    ∷ block_line unmet_accept (range (quad 10 20 0 10) (quad 10 20 0 255)) (only (quad 10 30 0 7))
    ∷ []

-- and their numbers: kind, rule, four pairs of bounds
abbrev pub numbers8443 : ℕ → ℕ → ℕ → ℕ → ℕ → List ℕ
numbers8443 k r low high destination = k ∷ r ∷ low ∷ high ∷ destination ∷ destination ∷ 6 ∷ 6 ∷ 8443 ∷ 8443 ∷ []

abbrev pub block_numbers : List ℕ
block_numbers =
    numbers8443 4 0 (quad 10 20 0 0) (quad 10 20 0 8) (quad 10 30 0 7)
    ++ numbers8443 2 2 (quad 10 20 0 9) (quad 10 20 0 9) (quad 10 30 0 6)
    ++ numbers8443 4 0 (quad 10 20 0 9) (quad 10 20 0 9) (quad 10 30 0 7)
    ++ numbers8443 4 0 (quad 10 20 0 10) (quad 10 20 0 255) (quad 10 30 0 7)

-- with directive 2, `ask deny * 10.30.0.5 6 8443`, added; with rule 4, `deny * * * *`, added
abbrev pub any : Span
any = range 0 4_294_967_295

abbrev pub policy2 : Policy
policy2 = record { directives = directive1 ∷ record { action = deny; block = block8443 any (only (quad 10 30 0 5)); exceptions = [] } ∷ [] }

abbrev pub rules4 : Table
rules4 = rules ++ (record { action = deny; block = widest fields } ∷ [])

-- a packet, and the label that the document gives it with a table and a policy
pub record Row : Type 0 where
  pub table : Table
  pub asked_by : Policy
  pub packet : Packet
  pub expected : Label

abbrev pub row8443 : Table → Policy → ℕ → ℕ → Label → Row
row8443 t a source destination l = record { table = t; asked_by = a; packet = source ∷ destination ∷ 6 ∷ 8443 ∷ []; expected = l }

-- L1 to L12
abbrev pub twelve : List Row
twelve =
    row8443 rules policy (quad 10 20 0 1) (quad 10 30 0 4) good
    ∷ row8443 rules policy (quad 10 20 0 9) (quad 10 30 0 6) (wrong 2)
    ∷ row8443 rules policy (quad 10 20 0 8) (quad 10 30 0 6) good
    ∷ row8443 rules policy (quad 10 20 0 9) (quad 10 30 0 7) unmet_accept
    ∷ row8443 rules policy (quad 10 20 0 255) (quad 10 30 0 5) good
    ∷ row8443 rules policy (quad 10 20 1 0) (quad 10 30 0 6) good
    ∷ record { table = rules; asked_by = policy; packet = quad 10 20 0 9 ∷ quad 10 30 0 6 ∷ 6 ∷ 8444 ∷ []; expected = good }
    ∷ record { table = rules; asked_by = policy; packet = quad 10 20 0 9 ∷ quad 10 30 0 6 ∷ 17 ∷ 8443 ∷ []; expected = good }
    ∷ row8443 rules policy2 (quad 10 20 0 1) (quad 10 30 0 5) conflict
    ∷ row8443 rules policy2 (quad 10 21 0 0) (quad 10 30 0 5) unmet_deny
    ∷ record { table = rules4; asked_by = policy; packet = lowest fields; expected = unasked 4 }
    ∷ row8443 rules4 policy (quad 10 20 0 3) (quad 10 30 0 7) (wrong 4)
    ∷ []
