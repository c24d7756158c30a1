-- Labels that agree at every packet have one listing: a run that starts where another does ends where it does. Assumes nothing.
use mathlib.Core.Path.{◌≡◌, refl, sym, ◌∙◌, subst}
use mathlib.Core.List.{List, [], ◌∷◌}
use Prim.Native.Nat.{ℕ, suc, ◌≤◌, ◌<◌}
use native.Mathlib.Omega.{arith}
use Rattle.meaning.specs.Fields.{Packet, range_none, range_more}
use Rattle.meaning.specs.Listings.{Listed, Lister, at, Agree, Runs, no_more, run, Last, is_good, at_fault, Listing}

module _ {L : Type 0} {ns : List ℕ} where
  pub agree_refl : (f : Packet → L) → Agree ns f f
  agree_refl f p i = refl

  pub agree_sym : {f g : Packet → L} → Agree ns f g → Agree ns g f
  agree_sym a p i = sym (a p i)

  pub agree_trans : {f g h : Packet → L} → Agree ns f g → Agree ns g h → Agree ns f h
  agree_trans a b p i = a p i ∙ b p i

  pub agree_at : {n : ℕ} {f g : Packet → L} → Agree (n ∷ ns) f g → (x : ℕ) → x < n → Agree ns (at f x) (at g x)
  agree_at a x h p i = a (x ∷ p) (range_more h i)

-- where a run from `low` that ends at `high` is maximal
pub record RunTo {L : Type 0} (ns : List ℕ) (n : ℕ) (f : Packet → L) (low high : ℕ) : Type 0 where
  pub rises : low ≤ high
  pub below : high < n
  pub agrees : (x : ℕ) → low ≤ x → x ≤ high → Agree ns (at f low) (at f x)
  pub stops : suc high < n → ¬ Agree ns (at f low) (at f (suc high))

module _ {L : Type 0} (ns : List ℕ) (n : ℕ) where
  -- a run of f cannot end inside a run of g
  no_shorter : (f g : Packet → L) → ((x : ℕ) → x < n → Agree ns (at f x) (at g x)) → (low high next : ℕ)
      → RunTo ns n f low high → RunTo ns n g low next → ¬ (high < next)
  no_shorter f g fg low high next a b l =
      a.stops (omega (arith, b.below))
      (agree_trans (fg low (omega (arith, a.rises, a.below)))
      (agree_trans (b.agrees (suc high) (omega (arith, a.rises)) l) (agree_sym (fg (suc high) (omega (arith, b.below))))))

  same_end : (f g : Packet → L) → ((x : ℕ) → x < n → Agree ns (at f x) (at g x)) → (low high next : ℕ)
      → RunTo ns n f low high → RunTo ns n g low next → high ≡ next
  same_end f g fg low high next a b =
      let not_less = no_shorter f g fg low high next a b in
      let not_more = no_shorter g f (λ x h. agree_sym (fg x h)) low next high b a in
      omega arith

module _
    {L : Type 0}
    (ns : List ℕ)
    (Inner : Lister L)
    (n : ℕ)
    (inner_unique : (f g : Packet → L) (bs cs : List (Listed L)) → Inner f bs → Inner g cs → Agree ns f g → bs ≡ cs)
  where
    runs_unique : (f g : Packet → L) → ((x : ℕ) → x < n → Agree ns (at f x) (at g x)) → {low : ℕ} {bs cs : List (Listed L)} → Runs ns Inner n f low bs
        → Runs ns Inner n g low cs → bs ≡ cs
    runs_unique f g fg (no_more a) (no_more b) = refl
    runs_unique f g fg (no_more a) (run b c d e i r) = absurd (omega arith)
    runs_unique f g fg (run b c d e i r) (no_more a) = absurd (omega arith)
    runs_unique f g fg (run {low} {high} {blocks = bs} {later = cs} a b c d i r) (run {high = next} {blocks = bs'} {later = cs'} a' b' c' d' i' r') =
        let end : high ≡ next =
        same_end ns n f g fg low high next (record { rises = a; below = b; agrees = c; stops = d }) (record { rises = a'; below = b'; agrees = c'; stops = d' }) in
        let inner : bs ≡ bs' = inner_unique (at f low) (at g low) bs bs' i i' (fg low (omega arith)) in
        let rest : cs ≡ cs' = runs_unique f g fg r (subst (λ (h : ℕ). Runs ns Inner n g (suc h) cs') (sym end) r') in
        cc

module _ {L : Type 0} (good : L) where
  last_unique : {l m : L} {bs cs : List (Listed L)} → Last good l bs → Last good m cs → l ≡ m → bs ≡ cs
  last_unique (is_good a) (is_good b) e = refl
  last_unique (is_good a) (at_fault b) e = absurd (b (sym e ∙ a))
  last_unique (at_fault a) (is_good b) e = absurd (a (e ∙ b))
  last_unique (at_fault a) (at_fault b) e = rw e

  pub listing_is_unique : (ns : List ℕ) (f g : Packet → L) (bs cs : List (Listed L)) → Listing good ns f bs → Listing good ns g cs → Agree ns f g
      → bs ≡ cs
  listing_is_unique [] f g bs cs a b e = last_unique a b (e [] range_none)
  listing_is_unique (n ∷ ns) f g bs cs a b e = runs_unique ns (Listing good ns) n (listing_is_unique ns) f g (agree_at e) a b
