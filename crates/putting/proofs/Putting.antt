-- Texts put one behind the other are one text put. Assumes nothing.
use mathlib.Core.Path.{◌≡◌, refl, sym, ap, ◌∙◌, subst}
use mathlib.Core.List.{List, [], ◌∷◌, ◌++◌}
use Prim.Native.Nat.{ℕ, ◌+◌, ◌≤◌, ◌<◌}
use native.Mathlib.Omega.{arith}
use native.Mathlib.Decide.{dec_lt}
use native.Mathlib.Numerals.{add-one}
use lib.ListN.{length, take, get_or, set, length-append}
use lib.Seq.{sets, length-sets, take-suc}
use Rattle.meaning.proofs.BufferStores.{sets_append, sets_past}
use Rattle.putting.specs.Putting.{Put, PutOn}
use Rattle.putting.specs.declared.Output.{Output}

-- nothing is put
pub put_nothing : (before : List ℕ) (start : ℕ) → Put before start [] before start
put_nothing before start = record { stored = refl; behind = omega arith }

-- a byte where there is room, and where there is none
pub put_stored : (before : List ℕ) (start byte : ℕ) → start < length before → Put before start (byte ∷ []) (set before start byte) (start + 1)
put_stored before start byte room = record { stored = refl; behind = omega arith }

pub put_past : (before : List ℕ) (start : ℕ) (text : List ℕ) → length before ≤ start → Put before start text before start
put_past before start text full = record { stored = sym (sets_past text before start full); behind = omega arith }

-- one text behind another
pub put_then : {before between after text more : List ℕ} {start place end : ℕ}
    → Put before start text between place → Put between place more after end → Put before start (text ++ more) after end
put_then {before} {between} {after} {text} {more} {start} {place} {end} p q =
    let long : length between ≡ length before = ap length p.stored ∙ length-sets before start text in
    let both : length (text ++ more) ≡ length text + length more = length-append text more in
    let joined : sets between place more ≡ sets before start (text ++ more) =
    elim (dec_lt (length before) (start + length text)) [
      | yes over ↦
          let full : length between ≤ place = omega (arith, p.behind) in
          sets_past more between place full ∙ p.stored
          ∙ sym (sets_past more (sets before start text) (start + length text) (subst (λ (n : ℕ). n ≤ start + length text) (sym (length-sets before start text)) (omega arith)))
          ∙ sym (sets_append text more before start)
      | no within ↦
          let at_end : place ≡ start + length text = omega (arith, p.behind) in
          (λ i. sets (p.stored i) (at_end i) more) ∙ sym (sets_append text more before start)
    ] in
    record {
      stored = q.stored ∙ joined;
      behind = omega (arith, p.behind, q.behind);
    }

-- a text put is another one, if they are the same
pub put_same : {before after text other : List ℕ} {start end : ℕ} → text ≡ other → Put before start text after end → Put before start other after end
put_same {before} {after} {start = start} {end = end} same p = subst (λ (t : List ℕ). Put before start t after end) same p

-- the buffer stays as long as it was
pub put_length : {before after text : List ℕ} {start end : ℕ} → Put before start text after end → length after ≡ length before
put_length {before} {text = text} {start = start} p = ap length p.stored ∙ length-sets before start text

-- one byte more of a text
pub put_more : (text : List ℕ) (i : ℕ) {before between after : List ℕ} {start place end : ℕ} → i < length text
    → Put before start (take i text) between place → Put between place (get_or text i 0 ∷ []) after end → Put before start (take (i + 1) text) after end
put_more text i within p q = put_same (sym (take-suc text i 0 within) ∙ ap (λ (k : ℕ). take k text) (sym (add-one i))) (put_then p q)

-- the same of an output
pub on_nothing : (o : Output) → PutOn o [] o
on_nothing o = record { same = refl; put = put_nothing _ _ }

pub on_then : {before between after : Output} {text more : List ℕ} → PutOn before text between → PutOn between more after → PutOn before (text ++ more) after
on_then p q = record { same = q.same ∙ p.same; put = put_then p.put q.put }

pub on_same : {before after : Output} {text other : List ℕ} → text ≡ other → PutOn before text after → PutOn before other after
on_same {before} {after} same p = subst (λ (t : List ℕ). PutOn before t after) same p

pub on_more : (text : List ℕ) (i : ℕ) {before between after : Output} → i < length text
    → PutOn before (take i text) between → PutOn between (get_or text i 0 ∷ []) after → PutOn before (take (i + 1) text) after
on_more text i within p q = record { same = q.same ∙ p.same; put = put_more text i within p.put q.put }
