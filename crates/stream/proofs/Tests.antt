-- What the tests of a stream find, turn by turn of its reader. Assumes nothing.
use Rattle.std.proofs.Common.{◌≡◌, ℕ, ◌≤◌, Bool, true, false, List, Some, None, Ok, Err, length}
use borrow.Author.Tests.{le-ltb}
use Rattle.rules.specs.Numbers.{longest, Verdict, Passed, Failed, Unreadable, TaskBehindEvent, first_of}
use Rattle.rules.specs.Records.{items_from, record_tests, stream_of}
use Rattle.rules.proofs.Streams.{end_at, tests_end, tests_bad, tests_late, tests_task, tests_event}
use Rattle.table.specs.declared.Task.{Task}
use Rattle.kernel.specs.declared.Call.{Call}
use Rattle.records.specs.declared.Record.TheVariants as Record
use Rattle.records.specs.declared.Unreadable as Error
use Rattle.records.specs.declared.Reader.{Reader}
use Rattle.records.specs.Turns.{Turns}

-- what the tests of the records from the reader's place on find; `begun`, that an event has come
abbrev pub tests_left : Reader → Bool → Verdict
tests_left r begun = first_of (record_tests begun (items_from r.stream.now r.at))

module _ (r t : Reader) (begun : Bool) where
  pub turn_end : Turns r None t → tests_left r begun ≡ Passed
  turn_end w = tests_end _ _ begun (end_at _ _ w.0)

  pub turn_bad : (e : Error.Unreadable) → Turns r (Some (Err e)) t → tests_left r begun ≡ Failed (Unreadable e.0)
  turn_bad e w = rw w.0 (tests_bad _ _ begun w.2)

  module _ (at : ℕ) where
    pub turn_late : (x : Task) → Turns r (Some (Ok (at, Record.Task x))) t → begun ≡ true → tests_left r begun ≡ Failed (TaskBehindEvent at)
    turn_late x w b = rw w.0 (tests_late _ _ begun b _ _ w.2.1)

    pub turn_task : (x : Task) → Turns r (Some (Ok (at, Record.Task x))) t → begun ≡ false → tests_left r begun ≡ tests_left t begun
    turn_task x w b = rw (w.1, w.2.2) (tests_task _ _ begun b _ _ w.2.1)

    pub turn_event : (c : Call) → Turns r (Some (Ok (at, Record.Event c))) t → tests_left r begun ≡ tests_left t true
    turn_event c w = rw (w.1, w.2.2) (tests_event _ _ begun _ _ w.2.1)

-- ---- the length

module _ (s : List ℕ) where
  pub short_enough : length s ≤ longest → stream_of s ≡ first_of (record_tests false (items_from s 0))
  unfolding stream_of first_of
  short_enough h = rw (le-ltb longest (length s) h)
