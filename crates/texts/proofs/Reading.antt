-- Laws of reading a text line by line, for every kind of line. Assumes nothing.
use mathlib.Core.Bool.{Bool, true, false, cond}
use mathlib.Core.List.{List, [], ◌∷◌}
use mathlib.Core.Path.{◌≡◌, refl, ap, sym, subst, ◌∙◌}
use native.Mathlib.Decide.{dec_lt}
use native.Mathlib.Numerals.{add-one}
use native.Mathlib.Omega.{arith}
use Rattle.std.specs.Prelude.{Result, Ok, Err}
use Prim.Native.Nat.{ℕ, suc, ◌+◌, ◌≤◌, ◌<◌}
use borrow.Author.Tests.{ltb-false}
use lib.Dec.{ltb}
use lib.ListN.{length, get_or, drop}
use denote.Ref.{Bor}
use Rattle.contracts.specs.Answers.{seen}
use Rattle.parts.specs.Parts.{shown}
use Rattle.parts.specs.Words.{newline}
use Rattle.parts.proofs.Parting.{part_here, parts_next, parts_last, part_fits, at_end}
use Rattle.sets.specs.declared.Reason.TheVariants.{TooLong, Unended}
use Rattle.sets.specs.declared.Reason.{Reason}
use Rattle.sets.specs.declared.Refusal.{Refusal}
use Rattle.lines.specs.Reader.{line_at, line_from, cursor_after, cursor_behind}
use Rattle.lines.specs.declared.Cursor.{Cursor}
use Rattle.lines.proofs.Stepping.{cursor_after_lem, found_bytes, found_after}
use Rattle.texts.specs.Texts.{most_bytes, unended, refusal, refuse_text, lines_of, Said, goes, stops, on_said, on_text}
use Rattle.texts.specs.Texts.{line_told, line_read, all_read, read_before, read_from, read_text}

-- a text that is not refused as a whole is not too long
pub unrefused_fits : (t : List ℕ) → refuse_text t ≡ Ok tt → length t ≤ most_bytes
unfolding refuse_text
unrefused_fits t e = go (ltb most_bytes (length t)) refl e
  where
    rest : Result (Unit {0}) Refusal
    rest = cond (unended t) (Err (refusal Unended (length (lines_of t)) 0)) (Ok tt)

    go : (a : Bool) → ltb most_bytes (length t) ≡ a → cond a (Err (refusal TooLong 0 0)) rest ≡ Ok tt → length t ≤ most_bytes
    go true h f = cc
    go false h f = ltb-false most_bytes (length t) h

pub line_fits : (t : List ℕ) (at : ℕ) → at ≤ length t → at + length (line_at t at) ≤ length t
line_fits t at h = part_fits newline t at (at + length (line_at t at)) refl h

-- what is true of what is read, after a line that is not refused
abbrev pub Keeps : {S : Type 0} → (S → Type 0) → Said S → Type 0
Keeps Kept (goes s) = Kept s
Keeps Kept (stops reason field) = Unit {0}

module _ {S R : Type 0} (said : S → List ℕ → Said S) (all : S → R) (refused : S → Refusal → R) where
  abbrev from : ℕ → S → List (List ℕ) → R
  from = read_from said all refused

  -- where reading stands between two lines: the answer to the rest is the answer to the whole
  pub record Reading (first : S) (t : List ℕ) (at line : ℕ) (s : S) : Type 0 where
    pub at_le : at ≤ length t + 1
    pub line_le : line ≤ at + 1
    pub rest_is : from 1 first (lines_of t) ≡ from line s (lines_of (drop at t))

  pub begun : (first : S) (t : List ℕ) → Reading first t 0 1 first
  begun first t = record { at_le = omega arith; line_le = omega arith; rest_is = refl }

  -- what follows is for lines of which an empty one says nothing
  module _ (nothing : (s : S) → said s [] ≡ goes s) where
    -- so an empty line more at the end changes nothing
    empty_last : (n : ℕ) (s : S) (l : List ℕ) → from n s (l ∷ []) ≡ from n s (l ∷ [] ∷ [])
    empty_last n s l = go (said s l)
      where
        go : (o : Said S) → on_said o all (λ reason field. refused s (refusal reason n field))
            ≡ on_said o (λ s'. on_said (said s' []) all (λ reason field. refused s' (refusal reason (suc n) field)))
            (λ reason field. refused s (refusal reason n field))
        go (goes s') = simp (nothing s')
        go (stops k f) = refl

    -- the rest is the line there, and what comes behind it
    line_first : (t : List ℕ) (at n : ℕ) (s : S) → at ≤ length t
        → from n s (lines_of (drop at t)) ≡ from n s (line_at t at ∷ lines_of (drop ((at + length (line_at t at)) + 1) t))
    line_first t at n s h =
        let line = line_at t at in
        let end = at + length line in
        let rest = lines_of (drop (end + 1) t) in
        elim (dec_lt (at + length (line_at t at)) (length t)) [
          | yes l ↦ ap (from n s) (parts_next newline t at end refl h l ∙ ap (λ (x : List ℕ). x ∷ rest) (sym (part_here newline t at end refl)))
          | no l ↦
              let only = parts_last newline t at end refl (omega arith) in
              let is : line_at t at ≡ drop at t = ap (λ (ps : List (List ℕ)). get_or ps 0 []) only in
              let none : [] ∷ [] ≡ rest = sym (at_end newline t (end + 1) (omega arith)) in
              ap (from n s) (only ∙ ap (λ (x : List ℕ). x ∷ []) (sym is))
              ∙ empty_last n s line
              ∙ ap (λ (ps : List (List ℕ)). from n s (line ∷ ps)) none
        ]

    -- one line: reading goes on behind it, or stops at it; and what it is behind the last
    module _ (first : S) (t : List ℕ) (at line : ℕ) (s : S) (h : Reading first t at line s) where
      pub turned : at < length t → (s' : S) → said s (line_at t at) ≡ goes s' → Reading first t ((at + length (line_at t at)) + 1) (line + 1) s'
      turned inside s' e =
          record {
            at_le = omega (arith, line_fits t at (omega arith));
            line_le = omega (arith, h.line_le);
            rest_is =
                h.rest_is
                ∙ line_first t at line s (omega arith)
                ∙ simp e (ap (λ (m : ℕ). from m s' (lines_of (drop ((at + length (line_at t at)) + 1) t))) (sym (add-one line)));
          }

      pub halted : at < length t → (k : Reason) (f : ℕ) → said s (line_at t at) ≡ stops k f → from 1 first (lines_of t) ≡ refused s (refusal k line f)
      halted inside k f e = h.rest_is ∙ line_first t at line s (omega arith) ∙ simp e

      -- the same with cursors, in a text that is not too long
      pub stepped : length t ≤ most_bytes → at < length t
          → (c' : Cursor) → c' ≡ cursor_after t (record { at = at; line = line })
          → (s' : S) → said s (line_at t at) ≡ goes s' → Reading first t c'.at c'.line s'
      stepped fits inside c' moved s' e =
          let moves = moved ∙ cursor_after_lem t (record { at = at; line = line }) (omega arith) (omega (arith, h.line_le)) in
          subst (λ (c : Cursor). Reading first t c.at c.line s') (sym moves) (turned inside s' e)

      pub finished : length t ≤ at → from 1 first (lines_of t) ≡ all s
      finished out = h.rest_is ∙ ap (from line s) (at_end newline t at out) ∙ simp (nothing s)

  -- what each line keeps, and every answer has, the answer to the text has
  module _ (Kept : S → Type 0) (Has : R → Type 0) where
    module _ (keep : (s : S) (l : List ℕ) → Kept s → Keeps Kept (said s l))
        (done : (s : S) → Kept s → Has (all s)) (stopped : (s : S) (r : Refusal) → Has (refused s r)) where
      kept_from : (n : ℕ) (s : S) (ls : List (List ℕ)) → Kept s → Has (from n s ls)
      kept_from n s [] h = done s h
      kept_from n s (l ∷ ls) h = go (λ s' k. kept_from (suc n) s' ls k) (said s l) (keep s l h)
        where
          go : ((s' : S) → Kept s' → Has (from (suc n) s' ls)) → (o : Said S) → Keeps Kept o
              → Has (on_said o (λ s'. from (suc n) s' ls) (λ reason field. refused s (refusal reason n field)))
          go rest (goes s') k = rest s' k
          go rest (stops reason field) k = stopped s (refusal reason n field)

      pub kept : (s : S) (t : List ℕ) → Kept s → Has (read_text said all refused s t)
      kept s t h = go (refuse_text t)
        where
          go : (o : Result (Unit {0}) Refusal) → Has (on_text o (refused s) (from 1 s (lines_of t)))
          go (Ok u) = kept_from 1 s (lines_of t) h
          go (Err r) = stopped s r

  -- what the answer at the end and the answer to each refusal have, the answer to the text has
  module _ (Has : R → Type 0) (done : (s : S) → Has (all s)) (stopped : (s : S) (r : Refusal) → Has (refused s r)) where
    anything : (o : Said S) → Keeps (λ (s : S). Unit {0}) o
    anything (goes s) = tt
    anything (stops reason field) = tt

    pub answered : (s : S) (t : List ℕ) → Has (read_text said all refused s t)
    answered s t = kept (λ (s' : S). Unit {0}) Has (λ s' l h. anything (said s' l)) (λ s' h. done s') stopped s t tt

-- a call that reads a line was not refused: the line says what is read then
pub went : {S : Type 0} (n : ℕ) (s s' : S) (x : Said S) → Ok tt ≡ line_told n x → s' ≡ line_read s x → x ≡ goes s'
went n s s' (goes v) e r = ap goes (sym r)
went n s s' (stops reason field) e r = absurd (subst Fine e tt)
  where
    Fine : Result (Unit {0}) Refusal → Type 0
    Fine (Ok u) = Unit {0}
    Fine (Err q) = ⊥

-- it was refused: the line says that refusal
pub stayed : {S : Type 0} (n : ℕ) (r : Refusal) (x : Said S) → Err r ≡ line_told n x → x ≡ stops r.reason r.field × (r ≡ refusal r.reason n r.field)
stayed n r (goes v) e = absurd (subst Halts e tt)
  where
    Halts : Result (Unit {0}) Refusal → Type 0
    Halts (Ok u) = ⊥
    Halts (Err q) = Unit {0}
stayed n r (stops reason field) e =
    let is : r ≡ refusal reason n field = ap told e in
    (λ i. stops (sym is i).reason (sym is i).field, is ∙ (λ i. refusal (sym is i).reason n (sym is i).field))
  where
    told : Result (Unit {0}) Refusal → Refusal
    told (Ok u) = r
    told (Err q) = q

-- one turn of the loop: the call that reads the line found at the cursor answers o
module _ {S : Type 0} (said : S → List ℕ → Said S) (nothing : (s : S) → said s [] ≡ goes s) (first : S) (text : Bor (List ℕ)) (c : Cursor) (s : S)
    (h : Reading said all_read read_before first text.now c.at c.line s) (fits : length text.now ≤ most_bytes) (inside : c.at < length text.now)
    (line : Bor (List ℕ)) (found : seen line ≡ shown text (line_from text.now c.at))
    (o : Result (Unit {0}) Refusal) (answer : o ≡ line_told c.line (said s line.now)) where
  there : said s (line_at text.now c.at) ≡ said s line.now
  there = ap (said s) (sym (found_bytes text line c found))

  pub line_went : o ≡ Ok tt → (s' : S) → s' ≡ line_read s (said s line.now) → (c' : Cursor) → c' ≡ cursor_behind c (length line.now)
      → Reading said all_read read_before first text.now c'.at c'.line s'
  line_went e s' r c' q =
      let moved : c' ≡ cursor_after text.now c = found_after text line c found inside (omega arith) c' q in
      let says = there ∙ went c.line s s' (said s line.now) (sym e ∙ answer) r in
      stepped said all_read read_before nothing first text.now c.at c.line s h fits inside c' moved s' says

  pub line_stopped : (r : Refusal) → o ≡ Err r → (s' : S) → s' ≡ line_read s (said s line.now)
      → read_from said all_read read_before 1 first (lines_of text.now) ≡ (s', Err r)
  line_stopped r e s' q =
      let stop = stayed c.line r (said s line.now) (sym e ∙ answer) in
      let same : s' ≡ s = q ∙ ap (line_read s) stop.0 in
      halted said all_read read_before nothing first text.now c.at c.line s h inside r.reason r.field (there ∙ stop.0)
      ∙ (λ i. (sym same i, Err (sym stop.1 i)))

-- two kinds of line say the same, each by its own form of what is read: both go on, to what stands for one another, or both stop alike
abbrev pub Alike : {S T : Type 0} → (S → T → Type 0) → Said S → Said T → Type 0
Alike Stands (goes s) (goes v) = Stands s v
Alike Stands (stops k f) (stops k' f') = (k ≡ k') × (f ≡ f')
Alike Stands (goes s) (stops k f) = ⊥
Alike Stands (stops k f) (goes v) = ⊥

-- the answers to a text meet, where the answers at the end and to each refusal do
module _ {S R T Q : Type 0} (said : S → List ℕ → Said S) (all : S → R) (refused : S → Refusal → R)
    (said' : T → List ℕ → Said T) (all' : T → Q) (refused' : T → Refusal → Q) (Stands : S → T → Type 0) (Meets : R → Q → Type 0)
    (alike : (s : S) (v : T) (l : List ℕ) → Stands s v → Alike Stands (said s l) (said' v l))
    (done : (s : S) (v : T) → Stands s v → Meets (all s) (all' v)) (stopped : (s : S) (v : T) (r : Refusal) → Meets (refused s r) (refused' v r)) where
  met_from : (n : ℕ) (s : S) (v : T) (ls : List (List ℕ)) → Stands s v
      → Meets (read_from said all refused n s ls) (read_from said' all' refused' n v ls)
  met_from n s v [] h = done s v h
  met_from n s v (l ∷ ls) h = go (λ s' v' k. met_from (suc n) s' v' ls k) (said s l) (said' v l) (alike s v l h)
    where
      go : ((s' : S) (v' : T) → Stands s' v' → Meets (read_from said all refused (suc n) s' ls) (read_from said' all' refused' (suc n) v' ls))
          → (o : Said S) (o' : Said T) → Alike Stands o o'
          → Meets (on_said o (λ s'. read_from said all refused (suc n) s' ls) (λ reason field. refused s (refusal reason n field)))
          (on_said o' (λ v'. read_from said' all' refused' (suc n) v' ls) (λ reason field. refused' v (refusal reason n field)))
      go rest (goes s') (goes v') k = rest s' v' k
      go rest (stops k f) (stops k' f') e =
          subst (λ (x : Refusal). Meets (refused s (refusal k n f)) (refused' v x)) (λ i. refusal (e.0 i) n (e.1 i)) (stopped s v (refusal k n f))
      go rest (goes s') (stops k f) e = absurd e
      go rest (stops k f) (goes v') e = absurd e

  pub met : (s : S) (v : T) (t : List ℕ) → Stands s v → Meets (read_text said all refused s t) (read_text said' all' refused' v t)
  met s v t h = go (refuse_text t)
    where
      go : (o : Result (Unit {0}) Refusal) → Meets (on_text o (refused s) (read_from said all refused 1 s (lines_of t)))
          (on_text o (refused' v) (read_from said' all' refused' 1 v (lines_of t)))
      go (Ok u) = met_from 1 s v (lines_of t) h
      go (Err r) = stopped s v r
