-- Fields and packets. Everything is said over a list of field sizes; document 01's four fields are one such list.
use Rattle.std.specs.Prelude.{List, [], ◌∷◌, map, ℕ, ◌^◌, ◌<◌}

-- A field of w bits has 2 ^ w numbers, from 0 on.
abbrev pub size_of : ℕ → ℕ
size_of w = 2 ^ w

-- source, destination, protocol, destination port
abbrev pub widths : List ℕ
widths = 32 ∷ 32 ∷ 8 ∷ 16 ∷ []

abbrev pub fields : List ℕ
fields = map size_of widths

-- A packet is a number for each field.
abbrev pub Packet : Type 0
Packet = List ℕ

-- No number is past its field's largest, and no number is lacking or left over.
pub data InRange : List ℕ → Packet → Type 0 where
  range_none : InRange [] []
  range_more : {n x : ℕ} {ns : List ℕ} {p : Packet} → x < n → InRange ns p → InRange (n ∷ ns) (x ∷ p)

-- "Every such quadruple is a packet."
abbrev pub IsPacket : List ℕ → Packet → Type 0
IsPacket ns p = InRange ns p

-- "Packets are ordered by source, then destination, protocol, port."
pub data Before : Packet → Packet → Type 0 where
  sooner : {x y : ℕ} {p q : Packet} → x < y → Before (x ∷ p) (y ∷ q)
  level : {x : ℕ} {p q : Packet} → Before p q → Before (x ∷ p) (x ∷ q)

-- the lowest packet, all zeros
abbrev pub lowest : List ℕ → Packet
lowest ns = map (λ (n : ℕ). 0) ns
