-- What a turn of the reader gives, and where the reader is then.
use Rattle.std.specs.Prelude.{ℕ, ◌≡◌, ◌+◌, Option, Some, None, Result, Ok, Err, length}
use Rattle.rules.specs.Records as Rules
use Rattle.records.specs.declared.Record.{Record}
use Rattle.records.specs.declared.Unreadable.{Unreadable}
use Rattle.records.specs.declared.Reader.{Reader}
use Rattle.records.specs.Read.{read_as}

-- at the stream's end nothing, and the reader stays; a record with its offset, and the reader is behind its bytes; or the offset of one that
-- cannot be read, and the reader is at the stream's end, so that nothing follows
abbrev pub Turns : Reader → Option (Result (ℕ × Record) Unreadable) → Reader → Type 0
Turns r None t = (Rules.record_at r.stream.now r.at ≡ Rules.End) × (t ≡ r)
Turns r (Some (Ok x)) t =
    (x.0 ≡ r.at) × (t.stream ≡ r.stream) × ((size : ℕ) × (Rules.record_at r.stream.now r.at ≡ read_as x.1 size) × (t.at ≡ r.at + size))
Turns r (Some (Err e)) t = (e.0 ≡ r.at) × (t.stream ≡ r.stream) × (Rules.record_at r.stream.now r.at ≡ Rules.Bad) × (t.at ≡ length r.stream.now)
