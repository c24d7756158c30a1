-- "Decimal numbers have no sign and no leading zero, except 0 itself."
use Rattle.std.specs.Prelude.{Bool, true, false, cond, not, ◌&&◌, List, [], ◌∷◌, ℕ, ◌+◌, ◌-◌, ◌*◌, eqb, leb, Option, None, Some}
use Prim.Native.Char.{code}

-- all bytes are digits
abbrev pub digits : List ℕ → Bool
digits [] = true
digits (x ∷ xs) = (leb (code "0") x && leb x (code "9")) && digits xs

-- there is a digit, and the first is not 0 unless it is the only one
abbrev pub plain : List ℕ → Bool
plain [] = false
plain (x ∷ []) = true
plain (x ∷ y ∷ xs) = not (eqb x (code "0"))

-- the digits' value, where those before them make v
abbrev pub value : ℕ → List ℕ → ℕ
value v [] = v
value v (x ∷ xs) = value (v * 10 + (x - code "0")) xs

-- a decimal number up to a largest; of any length, since the value is a number without limit
unfoldable pub decimal_of : ℕ → List ℕ → Option ℕ
decimal_of most s = cond ((plain s && digits s) && leb (value 0 s) most) (Some (value 0 s)) None

-- go on with the number, or with what is said if none reads
abbrev pub on_number : {A : Type 0} → Option ℕ → A → (ℕ → A) → A
on_number (Some n) unread go = go n
on_number None unread go = unread
