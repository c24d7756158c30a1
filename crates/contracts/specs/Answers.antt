-- What it is for a contract to leave one answer. A contract, as the prover reads it from `src/`, is a relation between the
-- lifetimes, the arguments, the answer, and what the parameters are afterwards (`Post`). A slice that is lent to be read stays as
-- it was; of one that is lent to be changed, what it has afterwards is a part of the outcome.
use Rattle.std.specs.Prelude.{List, ◌≡◌, ℕ}
use Rattle.std.specs.Borrow.{Bor}

-- two answers that it allows for the same arguments are equal
abbrev pub OneAnswer : {K A R S : Type 0} → (K → A → R → S → Type 0) → Type 0
OneAnswer {K} {A} {R} {S} Post = (κs : K) (a : A) (r s : R) (after after' : S) → Post κs a r after → Post κs a s after' → r ≡ s

-- what can be seen of a slice: the address of its first byte, and its bytes
abbrev pub Seen : Type 0
Seen = (ℕ × ℕ) × List ℕ

abbrev pub seen : Bor (List ℕ) → Seen
seen s = (s.ref_ptr, s.now)

-- two slices that it allows for the same arguments are the same bytes at the same address
abbrev pub OneSlice : {K A S : Type 0} → (K → A → Bor (List ℕ) → S → Type 0) → Type 0
OneSlice {K} {A} {S} Post = (κs : K) (a : A) (r s : Bor (List ℕ)) (after after' : S) → Post κs a r after → Post κs a s after' → seen r ≡ seen s

-- two outcomes that it allows for the same arguments are equal: the answers, and what a lent buffer has afterwards
abbrev pub OneOutcome : {K A R S B : Type 0} → (S → B) → (K → A → R → S → Type 0) → Type 0
OneOutcome {K} {A} {R} {S} buffer Post =
    (κs : K) (a : A) (r s : R) (after after' : S) → Post κs a r after → Post κs a s after' → (r ≡ s) × (buffer after ≡ buffer after')
