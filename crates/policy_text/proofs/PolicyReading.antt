-- Laws of the lines of a policy, and of the loop over them. Assumes nothing.
use mathlib.Core.Bool.{Bool, true, false, cond, not}
use mathlib.Core.List.{List, [], ◌∷◌, ◌++◌}
use mathlib.Core.Path.{◌≡◌, refl, ap, sym, subst, ◌∙◌}
use native.Mathlib.Omega.{arith}
use Rattle.std.specs.Prelude.{Option, None, Some, Result, Ok, Err}
use Prim.Native.Nat.{ℕ, ◌+◌, ◌≤◌, ◌<◌}
use borrow.Author.Tests.{leb-false, eqb-false}
use denote.Ref.{Bor}
use lib.Dec.{eqb, leb}
use lib.ListN.{length, length-append}
use Rattle.contracts.specs.Answers.{seen}
use Rattle.meaning.specs.Blocks.{inside}
use Rattle.meaning.specs.Fields.{fields}
use Rattle.meaning.specs.Form.{most_directives, most_exceptions, block_in_form}
use Rattle.meaning.specs.Sizes as sizes
use Rattle.parts.specs.Fields.{field_count}
use Rattle.parts.specs.Parts.{shown}
use Rattle.parts.specs.Words.{bytes}
use Rattle.blocks.specs.Vocabulary.{block_of}
use Rattle.blocks.specs.declared.Block.{Block}
use Rattle.sets.specs.Empty.{zero_block, zero_directive, zero_exception}
use Rattle.sets.specs.Inner.{in_form}
use Rattle.sets.specs.Vocabulary.{directive_of}
use Rattle.sets.specs.Listed.{padded, policy_set}
use Rattle.sets.specs.declared.Directive.{Directive}
use Rattle.sets.specs.declared.Policy.{Policy}
use Rattle.sets.specs.declared.Refusal.{Refusal}
use Rattle.sets.specs.declared.Reason.TheVariants.{UnknownWord, FieldCount, NoDirective, OutsideDirective, Full}
use Rattle.sets.proofs.Padding.{padded_set, nothing_asked_lem}
use Rattle.lines.specs.Reader.{line_at, line_from, cursor_after, cursor_behind}
use Rattle.lines.specs.declared.Cursor.{Cursor}
use Rattle.lines.proofs.Stepping.{found_bytes, found_after}
use Rattle.texts.specs.Texts.{most_bytes, refusal, lines_of, Said, goes, stops, all_read, read_before, read_from, read_text}
use Rattle.texts.proofs.Reading.{Reading, begun, stepped, halted, finished, Alike, met}
use Rattle.records.specs.Readers.{refused}
use Rattle.records.specs.Records.{skipped, named, read_block, on_block, read_record, on_record}
use Rattle.records.specs.declared.FieldRefusal.{FieldRefusal}
use Rattle.records.specs.declared.Record.{Record}
use Rattle.records.proofs.Forming.{ReadInForm, read_block_in_form, RecordInForm, read_record_in_form}
use Rattle.policy_text.specs.Inner.{ask_added, but_added, nothing_read, line_said}
use Rattle.policy_text.specs.PolicyTexts.{but_fields, ask_line, but_line, says, policy_line}
use Rattle.policy_text.specs.PolicyTexts.{Asked, nothing_asked, nearest, ask, but, on_policy_line, said_policy, all_asked, none_asked, read_policy}
use Rattle.policy_text.specs.declared.PolicyLine.TheVariants.{Ask, But}
use Rattle.policy_text.specs.declared.PolicyLine.{PolicyLine}
use Rattle.policy_text.specs.declared.PolicyRead.{PolicyRead}

-- what a line says
abbrev pub Line : Type 0
Line = Result (Option PolicyLine) FieldRefusal

-- what a line says came where there was room for it and is in form; an exception stands below a directive and lies inside the nearest
abbrev pub SaidRight : ℕ → ℕ → Block → Line → Type 0
SaidRight asked excepted above (Ok None) = Unit {0}
SaidRight asked excepted above (Ok (Some (Ask d))) = (asked < most_directives) × (in_form (directive_of d) ≡ true)
SaidRight asked excepted above (Ok (Some (But b))) =
    (0 < asked) × (excepted < most_exceptions) × (inside (block_of b) (block_of above) ≡ true) × (block_in_form fields (block_of b) ≡ true)
SaidRight asked excepted above (Err r) = Unit {0}

module _ (asked excepted : ℕ) (above : Block) (line : List ℕ) where
  ask_right : SaidRight asked excepted above (says Ask (ask_line asked line))
  unfolding ask_line
  ask_right = go (read_record (leb most_directives asked) line) (read_record_in_form (leb most_directives asked) line)
    where
      go : (x : Result Record FieldRefusal) → RecordInForm (leb most_directives asked) x
          → SaidRight asked excepted above (says Ask (on_record x Err (λ r. Ok (record { action = r.action; block = r.block }))))
      go (Err r) h = tt
      go (Ok r) h = (leb-false most_directives asked h.0, h.1)

  but_right : SaidRight asked excepted above (says But (but_line asked excepted above line))
  unfolding but_line but_fields
  but_right =
      go (not (eqb (field_count line) (1 + sizes.field_count))) (eqb asked 0) refl (leb most_exceptions excepted) refl
      (read_block line 2) (read_block_in_form line 2)
    where
      lies : (d : Block) (b : Bool) → inside (block_of d) (block_of above) ≡ b → eqb asked 0 ≡ false → excepted < most_exceptions
          → block_in_form fields (block_of d) ≡ true → SaidRight asked excepted above (says But (cond b (Ok d) (Err (refused OutsideDirective 0))))
      lies d true e z h f = (let some = eqb-false asked 0 z in omega arith, h, e, f)
      lies d false e z h f = tt

      go : (a z : Bool) → eqb asked 0 ≡ z → (b : Bool) → leb most_exceptions excepted ≡ b → (y : Result Block FieldRefusal) → ReadInForm y
          → SaidRight asked excepted above
          (says But
          (cond a (Err (refused FieldCount 0))
          (cond z (Err (refused NoDirective 0))
          (cond b (Err (refused Full 0))
          (on_block y Err (λ d. cond (inside (block_of d) (block_of above)) (Ok d) (Err (refused OutsideDirective 0))))))))
      go true z e b h y f = tt
      go false true e b h y f = tt
      go false false e true h y f = tt
      go false false e false h (Err r) f = tt
      go false false e false h (Ok d) f = lies d (inside (block_of d) (block_of above)) refl e (leb-false most_exceptions excepted h) f

  pub said_right : SaidRight asked excepted above (policy_line asked excepted above line)
  unfolding policy_line
  said_right = go (skipped line) (named (bytes "ask") line) (named (bytes "but") line)
    where
      go : (a b c : Bool)
          → SaidRight asked excepted above
          (cond a (Ok None) (cond b (says Ask (ask_line asked line)) (cond c (says But (but_line asked excepted above line)) (Err (refused UnknownWord 1)))))
      go true b c = tt
      go false true c = ask_right
      go false false true = but_right
      go false false false = tt

-- a directive that a line says has room, and so has an exception
pub ask_has_room : (asked excepted : ℕ) (above : Block) (line : List ℕ) (d : Directive)
    → policy_line asked excepted above line ≡ Ok (Some (Ask d)) → asked < most_directives
ask_has_room asked excepted above line d e = (subst (SaidRight asked excepted above) e (said_right asked excepted above line)).0

pub but_has_room : (asked excepted : ℕ) (above : Block) (line : List ℕ) (b : Block)
    → policy_line asked excepted above line ≡ Ok (Some (But b)) → excepted < most_exceptions
but_has_room asked excepted above line b e = (subst (SaidRight asked excepted above) e (said_right asked excepted above line)).1

-- an empty line says nothing
pub says_nothing : (s : Asked) → said_policy s [] ≡ goes s
unfolding policy_line
says_nothing s = refl

-- the last directive is the nearest
nearest_last : (ds : List Directive) (d : Directive) → nearest (ds ++ (d ∷ [])) ≡ d.block
nearest_last [] d = refl
nearest_last (x ∷ []) d = refl
nearest_last (x ∷ y ∷ ds) d = nearest_last (y ∷ ds) d

abbrev set_of : Asked → Policy
set_of s = policy_set s.directives s.exceptions

-- a record more in the set is a record more in the list
ask_is : (s : Asked) (d : Directive) → length s.directives < most_directives → ask_added (set_of s) d ≡ set_of (ask s d)
ask_is s d h =
    λ i. record {
      directive_count = sym (length-append s.directives (d ∷ [])) i;
      directives = padded_set most_directives zero_directive s.directives d h i;
      exception_count = length s.exceptions;
      exceptions = padded most_exceptions zero_exception s.exceptions;
    }

but_is : (s : Asked) (b : Block) → length s.exceptions < most_exceptions → but_added (set_of s) b ≡ set_of (but s b)
but_is s b h =
    λ i. record {
      directive_count = length s.directives;
      directives = padded most_directives zero_directive s.directives;
      exception_count = sym (length-append s.exceptions (record { directive = length s.directives; block = b } ∷ [])) i;
      exceptions = padded_set most_exceptions zero_exception s.exceptions (record { directive = length s.directives; block = b }) h i;
    }

-- the set is that of what is read so far, the block is the nearest directive's, and reading stands at the cursor
pub record Read (t : List ℕ) (c : Cursor) (p : Policy) (above : Block) : Type 0 where
  pub s : Asked
  pub few : length s.directives ≤ most_directives
  pub is : p ≡ set_of s
  pub above_is : above ≡ nearest s.directives
  pub reading : Reading said_policy all_asked none_asked nothing_asked t c.at c.line s

pub read_none : (t : List ℕ) (p : Policy) → p ≡ set_of nothing_asked → Read t (record { at = 0; line = 1 }) p zero_block
read_none t p e =
    record { s = nothing_asked; few = omega arith; is = e; above_is = refl; reading = begun said_policy all_asked none_asked nothing_asked t }

pub read_all : (t : List ℕ) (c : Cursor) (p : Policy) (above : Block) (h : Read t c p above) → length t ≤ c.at
    → Ok p ≡ read_from said_policy all_asked none_asked 1 nothing_asked (lines_of t)
read_all t c p above h out =
    ap Ok h.is
    ∙ sym (finished said_policy all_asked none_asked says_nothing nothing_asked t c.at c.line h.s h.reading out)

-- one turn: the line that was found at the cursor says o
module _ (text : Bor (List ℕ)) (c : Cursor) (p : Policy) (above : Block) (h : Read text.now c p above) (fits : length text.now ≤ most_bytes)
    (inside : c.at < length text.now) (line : Bor (List ℕ)) (found : seen line ≡ shown text (line_from text.now c.at))
    (o : Line) (said : o ≡ policy_line p.directive_count p.exception_count above line.now) where
  abbrev t : List ℕ
  t = text.now

  said_there : o ≡ policy_line p.directive_count p.exception_count above (line_at t c.at)
  said_there = said ∙ ap (policy_line p.directive_count p.exception_count above) (found_bytes text line c found)

  abbrev then : Line → Said Asked
  then x = on_policy_line x (goes h.s) (λ d. goes (ask h.s d)) (λ b. goes (but h.s b)) stops

  reads : (o' : Line) → o ≡ o' → said_policy h.s (line_at t c.at) ≡ then o'
  reads o' e =
      ap then
      (ap (λ (x : Policy). policy_line x.directive_count x.exception_count (nearest h.s.directives) (line_at t c.at)) (sym h.is)
      ∙ ap (λ (b : Block). policy_line p.directive_count p.exception_count b (line_at t c.at)) (sym h.above_is)
      ∙ sym said_there
      ∙ e)

  pub right : (o' : Line) → o ≡ o' → SaidRight p.directive_count p.exception_count above o'
  right o' e =
      subst (SaidRight p.directive_count p.exception_count above) (sym said_there ∙ e)
      (said_right p.directive_count p.exception_count above (line_at t c.at))

  asked_is : p.directive_count ≡ length h.s.directives
  asked_is = ap (λ (x : Policy). x.directive_count) h.is

  excepted_is : p.exception_count ≡ length h.s.exceptions
  excepted_is = ap (λ (x : Policy). x.exception_count) h.is

  pub few_asked : p.directive_count ≤ most_directives
  few_asked = omega (arith, asked_is, h.few)

  -- reading stands behind the line, which says this
  read_on : (c' : Cursor) → c' ≡ cursor_behind c (length line.now) → (s : Asked) → said_policy h.s (line_at t c.at) ≡ goes s
      → Reading said_policy all_asked none_asked nothing_asked t c'.at c'.line s
  read_on c' q s e =
      let moved : c' ≡ cursor_after t c = found_after text line c found inside (omega arith) c' q in
      stepped said_policy all_asked none_asked says_nothing nothing_asked t c.at c.line h.s h.reading fits inside c' moved s e

  pub read_skip : (c' : Cursor) → c' ≡ cursor_behind c (length line.now) → o ≡ Ok None → Read t c' p above
  read_skip c' q e = record { s = h.s; few = h.few; is = h.is; above_is = h.above_is; reading = read_on c' q h.s (reads (Ok None) e) }

  pub read_ask : (c' : Cursor) (p' : Policy) (d : Directive)
      → c' ≡ cursor_behind c (length line.now) → p' ≡ ask_added p d → o ≡ Ok (Some (Ask d)) → Read t c' p' d.block
  read_ask c' p' d q w e =
      let spare = (right (Ok (Some (Ask d))) e).0 in
      record {
        s = ask h.s d;
        few = omega (arith, asked_is, spare, length-append h.s.directives (d ∷ []));
        is = w ∙ ap (λ (x : Policy). ask_added x d) h.is ∙ ask_is h.s d (omega (arith, asked_is, spare));
        above_is = sym (nearest_last h.s.directives d);
        reading = read_on c' q (ask h.s d) (reads (Ok (Some (Ask d))) e);
      }

  pub read_but : (c' : Cursor) (p' : Policy) (b : Block)
      → c' ≡ cursor_behind c (length line.now) → p' ≡ but_added p b → o ≡ Ok (Some (But b)) → Read t c' p' above
  read_but c' p' b q w e =
      record {
        s = but h.s b;
        few = h.few;
        is = w ∙ ap (λ (x : Policy). but_added x b) h.is ∙ but_is h.s b (omega (arith, excepted_is, (right (Ok (Some (But b))) e).1));
        above_is = h.above_is;
        reading = read_on c' q (but h.s b) (reads (Ok (Some (But b))) e);
      }

  pub read_stop : (r : FieldRefusal) → o ≡ Err r
      → read_from said_policy all_asked none_asked 1 nothing_asked (lines_of t) ≡ none_asked nothing_asked (refusal r.reason c.line r.field)
  read_stop r e =
      halted said_policy all_asked none_asked says_nothing nothing_asked t c.at c.line h.s h.reading inside r.reason r.field (reads (Err r) e)

-- the set and the nearest block that stand for what is read are read as it is
abbrev standing : Asked → PolicyRead
standing s = record { policy = set_of s; above = nearest s.directives }

abbrev Stands : Asked → PolicyRead → Type 0
Stands s read = read ≡ standing s

said_alike : (s : Asked) (read : PolicyRead) (line : List ℕ) → Stands s read → Alike Stands (said_policy s line) (line_said read line)
said_alike s read line e =
    subst (λ (x : PolicyRead). Alike Stands (said_policy s line) (line_said x line)) (sym e)
    (go (policy_line asked excepted above line) (said_right asked excepted above line))
  where
    asked : ℕ
    asked = length s.directives

    excepted : ℕ
    excepted = length s.exceptions

    above : Block
    above = nearest s.directives

    go : (o : Line) → SaidRight asked excepted above o
        → Alike Stands (on_policy_line o (goes s) (λ d. goes (ask s d)) (λ b. goes (but s b)) stops)
        (on_policy_line o (goes (standing s)) (λ d. goes (record { policy = ask_added (set_of s) d; above = d.block }))
        (λ b. goes (record { policy = but_added (set_of s) b; above = above })) stops)
    go (Ok None) h = refl
    go (Ok (Some (Ask d))) h = λ i. record { policy = ask_is s d h.0 i; above = sym (nearest_last s.directives d) i }
    go (Ok (Some (But b))) h = ap (λ (x : Policy). record { policy = x; above = above }) (but_is s b h.1)
    go (Err r) h = (refl, refl)

-- the answer that hands back the policy alone
abbrev pub policy_alone : PolicyRead × Result (Unit {0}) Refusal → Result Policy Refusal
policy_alone (read, Ok u) = Ok read.policy
policy_alone (read, Err r) = Err r

pub policy_met : (t : List ℕ) → read_policy t ≡ policy_alone (read_text line_said all_read read_before nothing_read t)
unfolding read_policy
policy_met t =
    met said_policy all_asked none_asked line_said all_read read_before Stands (λ (x : Result Policy Refusal) y. x ≡ policy_alone y)
    said_alike (λ s read e. ap (λ (x : PolicyRead). Ok x.policy) (sym e)) (λ s read r. refl)
    nothing_asked nothing_read t (ap (λ (x : Policy). record { policy = x; above = zero_block }) (sym nothing_asked_lem))
