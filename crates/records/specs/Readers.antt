-- How the fields of a block are read: a reader for each field, from the left.
use Rattle.std.specs.Prelude.{List, [], ◌∷◌, ℕ, ◌+◌, Result, Ok, Err}
use Rattle.meaning.specs.Blocks as blocks
use Rattle.parts.specs.Fields.{field}
use Rattle.blocks.specs.Vocabulary.{span_of}
use Rattle.blocks.specs.declared.Span.{Span}
use Rattle.numbers.specs.declared.Unfit.TheVariants.{Unread, NoSpan}
use Rattle.numbers.specs.declared.Unfit.{Unfit}
use Rattle.addresses.specs.Addresses.{address_of}
use Rattle.records.specs.Services.{protocol_of, port_of}
use Rattle.sets.specs.declared.Reason.TheVariants.{AddressUnread, AddressUnfit, ProtocolUnread, PortUnread, RangeFalls}
use Rattle.sets.specs.declared.Reason.{Reason}
use Rattle.records.specs.declared.FieldRefusal.{FieldRefusal}

-- bounds, or the reason for which they are refused: one for what does not read, and one for what reads and is no span
abbrev pub check : Reason → Reason → Result Span Unfit → Result Span Reason
check unread unfit (Ok s) = Ok s
check unread unfit (Err Unread) = Err unread
check unread unfit (Err NoSpan) = Err unfit

-- what the bytes of a field say: a span, or a reason of refusal
abbrev pub Reader : Type 0
Reader = List ℕ → Result Span Reason

-- an address: 6 if it does not read, 7 if it reads and is no span
abbrev pub address_reader : Reader
address_reader s = check AddressUnread AddressUnfit (address_of s)

-- a protocol: 8 if it does not read, 10 if it falls
abbrev pub protocol_reader : Reader
protocol_reader s = check ProtocolUnread RangeFalls (protocol_of s)

-- a port: 9 if it does not read, 10 if it falls
abbrev pub port_reader : Reader
port_reader s = check PortUnread RangeFalls (port_of s)

-- source, destination, protocol, port, in the order of the fields
abbrev pub readers : List Reader
readers = address_reader ∷ address_reader ∷ protocol_reader ∷ port_reader ∷ []

-- a refusal by reason and field
abbrev pub refused : Reason → ℕ → FieldRefusal
refused reason field = record { reason = reason; field = field }

-- the spans of fields in their order, or the reason and the field of the first refusal
abbrev pub SpansRead : Type 0
SpansRead = Result blocks.Block FieldRefusal

-- go on with the spans, or stop at the refusal
abbrev pub on_spans : {R : Type 0} → SpansRead → (FieldRefusal → R) → (blocks.Block → R) → R
on_spans (Ok ss) stop go = go ss
on_spans (Err r) stop go = stop r

-- field k and those behind it, from the left
abbrev pub ahead : ℕ → Result Span Reason → SpansRead → SpansRead
ahead k (Ok s) (Ok ss) = Ok (span_of s ∷ ss)
ahead k (Ok s) (Err r) = Err r
ahead k (Err reason) behind = Err (refused reason k)

-- the fields of a line from k on, one for each reader
abbrev pub read_spans : List Reader → List ℕ → ℕ → SpansRead
read_spans [] line k = Ok []
read_spans (r ∷ rs) line k = ahead k (r (field line k)) (read_spans rs line (k + 1))
