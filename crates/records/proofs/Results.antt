-- Two results that a contract allows are equal. Assumes nothing.
use Rattle.std.proofs.Common.{◌≡◌, refl, sym, ap, ap₂, ◌∙◌, ℕ, ◌+◌, List, length, Option, Some, None, Result, Ok, Err}
use Rattle.std.specs.Prelude.{IfErr}
use Rattle.std.specs.Borrow.{Bor}
use Rattle.rules.specs.Calls as Calls
use Rattle.rules.specs.Records as Rules
use Rattle.kernel.specs.declared.Call.{Call}
use Rattle.kernel.specs.Calls.{call_in}
use Rattle.records.specs.declared.Record.{Record}
use Rattle.records.specs.declared.Unreadable.{Unreadable}
use Rattle.records.specs.declared.Reader.{Reader}
use Rattle.records.specs.Read.{record_in, found_in}
use Rattle.records.specs.Turns.{Turns}

-- ---- a call is an event, and only one

abbrev call_for : Calls.Call → Call
call_for (Calls.Release reading task) = Call.Release reading (record { 0 = task })
call_for (Calls.Done reading task) = Call.Done reading (record { 0 = task })
call_for (Calls.Clock reading) = Call.Clock reading

call_same : (a : Call) → call_for (call_in a) ≡ a
call_same (Call.Release reading task) = refl
call_same (Call.Done reading task) = refl
call_same (Call.Clock reading) = refl

-- ---- and so are a record, and what was found, an error by its offset

abbrev record_by : Rules.Record → Record
record_by (Rules.TaskRecord x) = Record.Task (record { c = x.c; d = x.d; t = x.t })
record_by (Rules.EventRecord c) = Record.Event (call_for c)

record_same : (a : Record) → record_by (record_in a) ≡ a
record_same (Record.Task x) = refl
record_same (Record.Event e) = ap Record.Event (call_same e)

abbrev found_by : ℕ → Rules.Found → Result (Option (Record × ℕ)) Unreadable
found_by at Rules.End = Ok None
found_by at (Rules.Read r size) = Ok (Some (record_by r, size))
found_by at Rules.Bad = Err (record { 0 = at })

found_same : (at : ℕ) (a : Result (Option (Record × ℕ)) Unreadable) → IfErr a (λ e. e.0 ≡ at) → found_by at (found_in a) ≡ a
found_same at (Ok None) h = refl
found_same at (Ok (Some x)) h = ap (λ (r : Record). Ok (Some (r, x.1))) (record_same x.0)
found_same at (Err e) h = ap (λ (n : ℕ). Err (record { 0 = n })) (sym h)

pub found_one : (at : ℕ) (a b : Result (Option (Record × ℕ)) Unreadable) → found_in a ≡ found_in b → IfErr a (λ e. e.0 ≡ at) → IfErr b (λ e. e.0 ≡ at) → a ≡ b
found_one at a b e h g = sym (found_same at a h) ∙ ap (found_by at) e ∙ found_same at b g

-- ---- a reader is a stream and a place

-- of `Reader::new`, whose place is 0, and of `Reader::moved`
pub reader_one : {s : Bor (List ℕ)} {at : ℕ} (r x : Reader) → (r.stream ≡ s) × (r.at ≡ at) → (x.stream ≡ s) × (x.at ≡ at) → x ≡ r
reader_one r x p q = ap₂ (λ (s : Bor (List ℕ)) (n : ℕ). record { stream = s; at = n }) (q.0 ∙ sym p.0) (q.1 ∙ sym p.1)

-- a loop's iterator, made of a new reader, begins at the front
pub from_front : {s : Bor (List ℕ)} {it r : Reader} → it ≡ r → (r.stream ≡ s) × (r.at ≡ 0) → (it.stream.now ≡ s.now) × (it.at ≡ 0)
from_front e w = (ap (λ (x : Reader). x.stream.now) e ∙ ap (λ (b : Bor (List ℕ)). b.now) w.0, ap (λ (x : Reader). x.at) e ∙ w.1)

-- ---- a turn of a reader is what stands at its place, and leads to one place

abbrev Item : Type 0
Item = Option (Result (ℕ × Record) Unreadable)

abbrev item_by : ℕ → Rules.Found → Item
item_by at Rules.End = None
item_by at (Rules.Read r size) = Some (Ok (at, record_by r))
item_by at Rules.Bad = Some (Err (record { 0 = at }))

abbrev place_by : Reader → Rules.Found → ℕ
place_by r Rules.End = r.at
place_by r (Rules.Read x size) = r.at + size
place_by r Rules.Bad = length r.stream.now

-- by what the rules find at the place
turn_by : (r : Reader) (x : Item) (t : Reader) → Turns r x t
    → (x ≡ item_by r.at (Rules.record_at r.stream.now r.at)) × (t ≡ record { stream = r.stream; at = place_by r (Rules.record_at r.stream.now r.at) })
turn_by r None t w = rw w.0 (refl, w.1)
turn_by r (Some (Ok x)) t w =
    rw w.2.1 (
      ap₂ (λ (n : ℕ) (y : Record). Some (Ok (n, y))) w.0 (sym (record_same x.1)),
      ap₂ (λ (s : Bor (List ℕ)) (n : ℕ). record { stream = s; at = n }) w.1 w.2.2,
    )
turn_by r (Some (Err e)) t w =
    rw w.2 (
      ap (λ (n : ℕ). Some (Err (record { 0 = n }))) w.0,
      ap₂ (λ (s : Bor (List ℕ)) (n : ℕ). record { stream = s; at = n }) w.1 w.3,
    )

pub turns_one : (r : Reader) (x y : Item) (t u : Reader) → Turns r x t → Turns r y u → (x ≡ y) × (t ≡ u)
turns_one r x y t u p q = let a = turn_by r x t p in let b = turn_by r y u q in (a.0 ∙ sym b.0, a.1 ∙ sym b.1)
