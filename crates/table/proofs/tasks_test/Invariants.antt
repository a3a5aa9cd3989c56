use mathlib.Core.Path.{◌≡◌}
use Rattle.rules.specs.Numbers.{first_of}
use Rattle.rules.specs.Table.{tasks_tests}
use Rattle.table.specs.Stored.{table_of}
use Rattle.table.proofs.Tests.{from_place}
use Rattle.table.proofs.tasks_test.Given as goal

abbrev pub invariant-loop-i : goal.invariant-loop-i
invariant-loop-i l = from_place l.fn.table l.i ≡ first_of (tasks_tests 1 (table_of l.fn.table))
