-- Numbers as bytes.
use Rattle.std.specs.Prelude.{cond, List, [], ◌∷◌, ◌++◌, ℕ, zero, suc, ◌+◌, ◌/◌, ◌%◌, ltb}
use Prim.Native.Char.{code}
use Rattle.parts.specs.Words.{dot}

-- the byte of a digit
abbrev pub digit : ℕ → ℕ
digit d = code "0" + d

-- a number below 10 ^ k, in decimal: "no sign and no leading zero, except 0 itself"
abbrev pub decimal_below : ℕ → ℕ → List ℕ
decimal_below zero n = []
decimal_below (suc k) n = cond (ltb n 10) (digit n ∷ []) (decimal_below k (n / 10) ++ (digit (n % 10) ∷ []))

-- a number below 10 ^ 20, which every 64-bit number is
unfoldable pub decimal : ℕ → List ℕ
decimal n = decimal_below 20 n

-- an address of 32 bits as a dotted quad
unfoldable pub quad : ℕ → List ℕ
quad a =
    decimal (a / 16_777_216)
    ++ (dot ∷ (decimal (a / 65_536 % 256)
    ++ (dot ∷ (decimal (a / 256 % 256)
    ++ (dot ∷ decimal (a % 256))))))
