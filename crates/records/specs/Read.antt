-- What is read, as the rules' records.
use Rattle.std.specs.Prelude.{ℕ, List, Option, Some, None, Result, Ok, Err}
use Rattle.laws.specs.Words.{pick}
use Rattle.rules.specs.Records as Rules
use Rattle.table.specs.Stored.{task_of}
use Rattle.kernel.specs.Calls.{call_in}
use Rattle.records.specs.declared.Mark.{Mark}
use Rattle.records.specs.declared.Record.{Record}
use Rattle.records.specs.declared.Unreadable.{Unreadable}

abbrev pub record_in : Record → Rules.Record
record_in (Record.Task x) = Rules.TaskRecord (task_of x)
record_in (Record.Event e) = Rules.EventRecord (call_in e)

-- a record that was read, of so many bytes
abbrev pub read_as : Record → ℕ → Rules.Found
read_as r size = Rules.Read (record_in r) size

abbrev pub found_in : Result (Option (Record × ℕ)) Unreadable → Rules.Found
found_in (Ok None) = Rules.End
found_in (Ok (Some x)) = read_as x.0 x.1
found_in (Err e) = Rules.Bad

-- ---- inside: the rules' table of marks, by their names

abbrev pub mark_in : ℕ → ℕ → Option Mark
mark_in a b =
    pick (Rules.is_mark a b Rules.task_mark) (Some Mark.Task)
    (pick (Rules.is_mark a b Rules.release_mark) (Some Mark.Release)
    (pick (Rules.is_mark a b Rules.done_mark) (Some Mark.Done) (pick (Rules.is_mark a b Rules.clock_mark) (Some Mark.Clock) None)))

abbrev pub size_in : Mark → ℕ
size_in Mark.Task = (Rules.task_mark).size
size_in Mark.Release = (Rules.release_mark).size
size_in Mark.Done = (Rules.done_mark).size
size_in Mark.Clock = (Rules.clock_mark).size

-- what a record that is there says
abbrev pub says_in : List ℕ → ℕ → Mark → Rules.Found
says_in s at Mark.Task = Rules.read_by s at Rules.task_mark
says_in s at Mark.Release = Rules.read_by s at Rules.release_mark
says_in s at Mark.Done = Rules.read_by s at Rules.done_mark
says_in s at Mark.Clock = Rules.read_by s at Rules.clock_mark
