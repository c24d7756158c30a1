-- What it says that a test passes or fails. Assumes nothing.
use mathlib.Core.Path.{◌≡◌, refl}
use mathlib.Core.Bool.{Bool, true, false, ◌&&◌, ◌||◌, false≢true}
use lib.Dec.{T}

pub passed : (a : Bool) → T a → a ≡ true
passed true t = refl
passed false t = absurd t

pub failed : (a : Bool) → ¬ T a → a ≡ false
failed true h = absurd (h tt)
failed false h = refl

pub passes : (a : Bool) → a ≡ true → T a
passes true e = tt
passes false e = absurd (false≢true e)

pub tested : (a : Bool) → Dec (T a)
tested true = yes tt
tested false = no (λ t. t)

pub both : (a b : Bool) → T a → T b → T (a && b)
both true b s t = t
both false b s t = s

pub left : (a b : Bool) → T (a && b) → T a
left true b t = tt
left false b t = t

pub right : (a b : Bool) → T (a && b) → T b
right true b t = t
right false b t = absurd t

pub second : (a b : Bool) → ¬ T a → T (a || b) → T b
second true b h t = absurd (h tt)
second false b h t = t

-- two tests that pass together are one
pub same_test : (a b : Bool) → (T a → T b) → (T b → T a) → a ≡ b
same_test true b f g = rw (passed b (f tt)) refl
same_test false true f g = absurd (g tt)
same_test false false f g = refl
