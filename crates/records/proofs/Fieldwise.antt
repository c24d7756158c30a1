-- Which reader a field has, and laws of the loop over the fields of a block. Assumes nothing.
use mathlib.Core.List.{List, [], ◌∷◌, ◌++◌, append-nil}
use mathlib.Core.Path.{◌≡◌, refl, sym, ap, ◌∙◌}
use native.Mathlib.Omega.{arith}
use Rattle.std.specs.Prelude.{Result, Ok, Err}
use Prim.Native.Nat.{ℕ, zero, suc, ◌+◌, ◌*◌, ◌-◌, ◌≤◌, ◌<◌}
use denote.Ref.{Bor}
use lib.ListN.{length, get_or, set, drop, replicate, length-append, drop_of_length-le}
use lib.Seq.{drop-cons, append_snoc}
use Rattle.contracts.specs.Answers.{seen}
use Rattle.meaning.specs.Blocks as blocks
use Rattle.meaning.specs.Buffers.{bounds, spans_of}
use Rattle.meaning.specs.Sizes.{field_count, block_bounds}
use Rattle.meaning.proofs.BufferWritten.{bounds_length, spans_of_bounds}
use Rattle.parts.specs.Fields.{field_piece, field}
use Rattle.parts.specs.Parts.{shown}
use Rattle.parts.proofs.Parting.{shown_bytes}
use Rattle.blocks.specs.Vocabulary.{span_of, block_of, block_from}
use Rattle.blocks.specs.declared.Block.{Block}
use Rattle.blocks.specs.declared.Span.{Span}
use Rattle.sets.specs.Listed.{padded}
use Rattle.sets.proofs.Padding.{padded_set}
use Rattle.sets.specs.declared.Reason.{Reason}
use Rattle.records.specs.Readers.{Reader, address_reader, protocol_reader, port_reader, readers, refused, SpansRead, on_spans, ahead, read_spans}
use Rattle.records.specs.Records.{read_block}

-- the reader of a field, counted from 0
abbrev pub reader : ℕ → Reader
reader i = get_or readers i port_reader

-- fields 0 and 1 are addresses, 2 is a protocol, every other a port
pub reads_address : (i : ℕ) → i < 2 → reader i ≡ address_reader
reads_address zero h = refl
reads_address (suc zero) h = refl
reads_address (suc (suc i)) h = absurd (omega arith)

pub reads_protocol : (i : ℕ) → i ≡ 2 → reader i ≡ protocol_reader
reads_protocol i e = ap reader e

pub reads_port : (i : ℕ) → 2 ≤ i → (i ≡ 2 → ⊥) → reader i ≡ port_reader
reads_port zero h other = absurd (omega arith)
reads_port (suc zero) h other = absurd (omega arith)
reads_port (suc (suc zero)) h other = absurd (other refl)
reads_port (suc (suc (suc zero))) h other = refl
reads_port (suc (suc (suc (suc i)))) h other = refl

-- a reader has read the field that was shown
pub has_read : (line text : Bor (List ℕ)) (i n : ℕ) (o said : Result Span Reason)
    → seen text ≡ shown line (field_piece line.now n) → o ≡ reader i text.now → o ≡ said → reader i (field line.now n) ≡ said
has_read line text i n o said e f g = ap (reader i) (sym (shown_bytes line text (field_piece line.now n) e)) ∙ sym f ∙ g

-- spans go on behind others, or stop as they did
abbrev behind : blocks.Block → SpansRead → SpansRead
behind ss x = on_spans x Err (λ ts. Ok (ss ++ ts))

behind_none : (x : SpansRead) → x ≡ behind [] x
behind_none (Ok ts) = refl
behind_none (Err r) = refl

behind_more : (ss : blocks.Block) (n : ℕ) (s : Span) (x : SpansRead) → behind ss (ahead n (Ok s) x) ≡ behind (ss ++ (span_of s ∷ [])) x
behind_more ss n s (Ok ts) = ap Ok (sym (append_snoc ss (span_of s) ts))
behind_more ss n s (Err r) = refl

-- the bounds of one span more
bounds_more : (ss : blocks.Block) (s : blocks.Span) → bounds (ss ++ (s ∷ [])) ≡ (bounds ss ++ (s.low ∷ [])) ++ (s.high ∷ [])
unfolding bounds
bounds_more [] s = refl
bounds_more (t ∷ ss) s = ap (λ (l : List ℕ). t.low ∷ t.high ∷ l) (bounds_more ss s)

-- The loop's invariant: the spans of i fields are read, their bounds stand in front, and what the readers read in all the fields is these
-- spans and what the other readers read in the fields behind.
pub record Read (line : List ℕ) (k i : ℕ) (numbers : List ℕ) : Type 0 where
  pub ss : blocks.Block
  pub many : length ss ≡ i
  pub in_front : numbers ≡ padded block_bounds 0 (bounds ss)
  pub others : read_spans readers line k ≡ behind ss (read_spans (drop i readers) line (k + i))

pub read_none : (line : List ℕ) (k : ℕ) → Read line k 0 (replicate block_bounds 0)
unfolding bounds
read_none line k =
    let from : k ≡ k + 0 = omega arith in
    record {
      ss = [];
      many = refl;
      in_front = refl;
      others = behind_none (read_spans readers line k) ∙ ap (λ (n : ℕ). behind [] (read_spans readers line n)) from;
    }

module _ (line : List ℕ) (k i : ℕ) (numbers : List ℕ) (h : Read line k i numbers) where
  -- the bounds are written as they come
  written : (s : Span) → i < field_count → set (set numbers (2 * i) s.low) (2 * i + 1) s.high ≡ padded block_bounds 0 (bounds (h.ss ++ (span_of s ∷ [])))
  written s more =
      let front = bounds h.ss in
      let low = front ++ (s.low ∷ []) in
      let at : 2 * i ≡ length front = omega (arith, h.many, bounds_length h.ss) in
      let next : 2 * i + 1 ≡ length low = omega (arith, at, length-append front (s.low ∷ [])) in
      (λ j. set (set (h.in_front j) (at j) s.low) (next j) s.high)
      ∙ ap (λ (l : List ℕ). set l (length low) s.high) (padded_set block_bounds 0 front s.low (omega (arith, at)))
      ∙ padded_set block_bounds 0 low s.high (omega (arith, next))
      ∙ ap (padded block_bounds 0) (sym (bounds_more h.ss (span_of s)))

  -- the other readers are the field's and those behind it
  reads_on : (said : Result Span Reason) → i < field_count → reader i (field line (k + i)) ≡ said
      → read_spans readers line k ≡ behind h.ss (ahead (k + i) said (read_spans (drop (suc i) readers) line (k + i + 1)))
  reads_on said more e =
      h.others
      ∙ ap (λ (rs : List Reader). behind h.ss (read_spans rs line (k + i))) (drop-cons readers i port_reader more)
      ∙ ap (λ (x : Result Span Reason). behind h.ss (ahead (k + i) x (read_spans (drop (suc i) readers) line (k + i + 1)))) e

  pub read_more : (s : Span) → i < field_count → reader i (field line (k + i)) ≡ Ok s
      → Read line k (i + 1) (set (set numbers (2 * i) s.low) (2 * i + 1) s.high)
  read_more s more e =
      let again : k + i + 1 ≡ k + (i + 1) = omega arith in
      let next : suc i ≡ i + 1 = omega arith in
      record {
        ss = h.ss ++ (span_of s ∷ []);
        many = length-append h.ss (span_of s ∷ []) ∙ omega (arith, h.many);
        in_front = written s more;
        others =
            reads_on (Ok s) more e
            ∙ behind_more h.ss (k + i) s (read_spans (drop (suc i) readers) line (k + i + 1))
            ∙ (λ j. behind (h.ss ++ (span_of s ∷ [])) (read_spans (drop (next j) readers) line (again j)));
      }

  pub read_stop : (reason : Reason) → i < field_count → reader i (field line (k + i)) ≡ Err reason → Err (refused reason (k + i)) ≡ read_block line k
  unfolding read_block
  read_stop reason more e = sym (ap (λ (x : SpansRead). on_spans x Err (λ ss. Ok (block_from ss))) (reads_on (Err reason) more e))

  pub read_all : (b : Block) → field_count ≤ i → bounds (block_of b) ≡ numbers → Ok b ≡ read_block line k
  unfolding read_block
  read_all b all e =
      let full : block_bounds - length (bounds h.ss) ≡ 0 = omega (arith, h.many, bounds_length h.ss) in
      let front : bounds (block_of b) ≡ bounds h.ss = e ∙ h.in_front ∙ ap (λ (n : ℕ). bounds h.ss ++ replicate n 0) full ∙ append-nil (bounds h.ss) in
      let spans : block_of b ≡ h.ss = sym (spans_of_bounds (block_of b)) ∙ ap spans_of front ∙ spans_of_bounds h.ss in
      let last : read_spans (drop i readers) line (k + i) ≡ Ok [] = ap (λ (rs : List Reader). read_spans rs line (k + i)) (drop_of_length-le readers all) in
      let whole : read_spans readers line k ≡ Ok h.ss = h.others ∙ ap (behind h.ss) last ∙ ap Ok (append-nil h.ss) in
      ap (λ (ss : blocks.Block). Ok (block_from ss)) spans
      ∙ sym (ap (λ (x : SpansRead). on_spans x Err (λ ss. Ok (block_from ss))) whole)
