-- A block that reads is in form, alone and in a rule or a directive. Assumes nothing.
use mathlib.Core.Bool.{Bool, true, false, cond, not}
use mathlib.Core.List.{List, [], ◌∷◌}
use mathlib.Core.Path.{◌≡◌, refl, sym, ap, ◌∙◌}
use native.Mathlib.Omega.{arith}
use Rattle.std.specs.Prelude.{Option, Some, None, Result, Ok, Err}
use Prim.Native.Nat.{ℕ, zero, suc, ◌+◌, ◌-◌, ◌≤◌, ◌<◌}
use borrow.Author.Tests.{le-leb, lt-ltb}
use lib.Dec.{eqb}
use lib.ListN.{length, get_or}
use lib.Seq.{ext_get_or}
use Rattle.meaning.specs.Blocks as blocks
use Rattle.meaning.specs.Fields.{size_of, fields}
use Rattle.meaning.specs.Form.{block_in_form}
use Rattle.meaning.specs.Sizes as sizes
use Rattle.meaning.proofs.FormLaws.{form_shaped}
use Rattle.meaning.proofs.Tests.{passes}
use Rattle.parts.specs.Fields.{field, field_count}
use Rattle.parts.specs.Parts.{same}
use Rattle.parts.specs.Words.{bytes}
use Rattle.blocks.specs.Vocabulary.{block_of, block_from}
use Rattle.numbers.specs.Intervals.{span, interval_of}
use Rattle.blocks.specs.declared.Block.{Block}
use Rattle.blocks.specs.declared.Span.{Span}
use Rattle.numbers.specs.declared.Unfit.TheVariants.{Unread, NoSpan}
use Rattle.numbers.specs.declared.Unfit.{Unfit}
use Rattle.numbers.proofs.Spanning.{InField, interval_in_field}
use Rattle.addresses.specs.Addresses.{address_of}
use Rattle.addresses.proofs.Addressing.{address_in_field}
use Rattle.sets.specs.declared.Action.{Action}
use Rattle.sets.specs.declared.Reason.TheVariants.{FieldCount, ActionUnread, AddressUnread, AddressUnfit, ProtocolUnread, PortUnread, RangeFalls, Full}
use Rattle.sets.specs.declared.Reason.{Reason}
use Rattle.records.specs.Readers.{check, Reader, address_reader, protocol_reader, port_reader, readers, refused, SpansRead, on_spans, ahead, read_spans}
use Rattle.records.specs.Records.{read_action, on_action, read_block, on_block, read_record}
use Rattle.records.specs.Services.{protocol_of, port_of}
use Rattle.records.specs.declared.FieldRefusal.{FieldRefusal}
use Rattle.records.specs.declared.Record.{Record}

-- a span that reads does not fall, and ends below the size of its field
abbrev CheckedFits : ℕ → Result Span Reason → Type 0
CheckedFits n (Ok s) = (s.low ≤ s.high) × (s.high < n)
CheckedFits n (Err reason) = Unit {0}

-- spans that read, one for each field, are in form
abbrev SpansInForm : List ℕ → SpansRead → Type 0
SpansInForm ns (Ok ss) = block_in_form ns ss ≡ true
SpansInForm ns (Err r) = Unit {0}

-- what reads as a block is in form
abbrev pub ReadInForm : Result Block FieldRefusal → Type 0
ReadInForm (Ok b) = block_in_form fields (block_of b) ≡ true
ReadInForm (Err r) = Unit {0}

-- a reader for each field, whose spans fit the field
data ReadersFit : List Reader → List ℕ → Type 0 where
  fit_none : ReadersFit [] []
  fit_more : {r : Reader} {n : ℕ} {rs : List Reader} {ns : List ℕ} → ((s : List ℕ) → CheckedFits n (r s)) → ReadersFit rs ns → ReadersFit (r ∷ rs) (n ∷ ns)

-- their spans are in form
spans_in_form : {rs : List Reader} {ns : List ℕ} → ReadersFit rs ns → (line : List ℕ) (k : ℕ) → SpansInForm ns (read_spans rs line k)
unfolding block_in_form
spans_in_form fit_none line k = refl
spans_in_form (fit_more {r = r} {n = n} {rs = rs} {ns = ns} fits others) line k =
    go (r (field line k)) (read_spans rs line (k + 1)) (fits (field line k)) (spans_in_form others line (k + 1))
  where
    go : (x : Result Span Reason) (y : SpansRead) → CheckedFits n x → SpansInForm ns y → SpansInForm (n ∷ ns) (ahead k x y)
    go (Err reason) y e f = tt
    go (Ok s) (Err r) e f = tt
    go (Ok s) (Ok ss) e f = simp (le-leb s.low s.high e.0, lt-ltb s.high n e.1, f)

-- bounds up to a field's largest number fit the field
check_fits : (n : ℕ) (unread unfit : Reason) (b : Result Span Unfit) → 0 < n → InField (n - 1) b → CheckedFits n (check unread unfit b)
check_fits n unread unfit (Ok s) some h = (h.0, omega (arith, h.1))
check_fits n unread unfit (Err Unread) some h = tt
check_fits n unread unfit (Err NoSpan) some h = tt

-- the largest number of a field of w bits
abbrev largest : ℕ → ℕ
largest w = size_of w - 1

protocol_in_field : (s : List ℕ) → InField (largest 8) (protocol_of s)
unfolding protocol_of
protocol_in_field s = go (same s (bytes "tcp")) (same s (bytes "udp")) (same s (bytes "icmp"))
  where
    go : (a b c : Bool)
        → InField (largest 8) (cond a (Ok (span 6 6)) (cond b (Ok (span 17 17)) (cond c (Ok (span 1 1)) (interval_of (largest 8) s))))
    go true b c = (omega arith, omega arith)
    go false true c = (omega arith, omega arith)
    go false false true = (omega arith, omega arith)
    go false false false = interval_in_field (largest 8) s

port_in_field : (s : List ℕ) → InField (largest 16) (port_of s)
unfolding port_of
port_in_field s = interval_in_field (largest 16) s

address_fits : (s : List ℕ) → CheckedFits (size_of 32) (address_reader s)
address_fits s = check_fits (size_of 32) AddressUnread AddressUnfit (address_of s) (omega arith) (address_in_field s)

protocol_fits : (s : List ℕ) → CheckedFits (size_of 8) (protocol_reader s)
protocol_fits s = check_fits (size_of 8) ProtocolUnread RangeFalls (protocol_of s) (omega arith) (protocol_in_field s)

port_fits : (s : List ℕ) → CheckedFits (size_of 16) (port_reader s)
port_fits s = check_fits (size_of 16) PortUnread RangeFalls (port_of s) (omega arith) (port_in_field s)

-- the fields' own readers fit them, field by field
readers_fit : ReadersFit readers fields
readers_fit = fit_more address_fits (fit_more address_fits (fit_more protocol_fits (fit_more port_fits fit_none)))

-- spans, one for each field, are those of the block made of them
spans_stand : (ss : blocks.Block) → length ss ≡ sizes.field_count → block_of (block_from ss) ≡ ss
spans_stand ss all = ext_get_or (blocks.whole 1) (block_of (block_from ss)) ss (sym all) at
  where
    at : (i : ℕ) → i < sizes.field_count → get_or (block_of (block_from ss)) i (blocks.whole 1) ≡ get_or ss i (blocks.whole 1)
    at zero h = refl
    at (suc zero) h = refl
    at (suc (suc zero)) h = refl
    at (suc (suc (suc zero))) h = refl
    at (suc (suc (suc (suc i)))) h = absurd (omega arith)

pub read_block_in_form : (line : List ℕ) (k : ℕ) → ReadInForm (read_block line k)
unfolding read_block
read_block_in_form line k = go (read_spans readers line k) (spans_in_form readers_fit line k)
  where
    go : (x : SpansRead) → SpansInForm fields x → ReadInForm (on_spans x Err (λ ss. Ok (block_from ss)))
    go (Err r) e = tt
    go (Ok ss) e = ap (block_in_form fields) (spans_stand ss (form_shaped fields ss (passes _ e))) ∙ e

-- an action and a block that read came where there was room, and the block is in form
abbrev pub RecordInForm : Bool → Result Record FieldRefusal → Type 0
RecordInForm full (Ok r) = (full ≡ false) × (block_in_form fields (block_of r.block) ≡ true)
RecordInForm full (Err r) = Unit {0}

pub read_record_in_form : (full : Bool) (line : List ℕ) → RecordInForm full (read_record full line)
unfolding read_record
read_record_in_form full line =
    go (not (eqb (field_count line) (2 + sizes.field_count))) full refl (read_action line) (read_block line 3) (read_block_in_form line 3)
  where
    go : (a b : Bool) → full ≡ b → (x : Option Action) (y : Result Block FieldRefusal) → ReadInForm y
        → RecordInForm full
        (cond a (Err (refused FieldCount 0))
        (cond b (Err (refused Full 0))
        (on_action x (Err (refused ActionUnread 2)) (λ e. on_block y Err (λ d. Ok (record { action = e; block = d }))))))
    go true b e x y h = tt
    go false true e x y h = tt
    go false false e None y h = tt
    go false false e (Some x) (Err r) h = tt
    go false false e (Some x) (Ok y) h = (e, h)
