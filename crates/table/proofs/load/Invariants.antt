use mathlib.Core.Path.{◌≡◌}
use Prim.Native.Nat.{◌+◌, ◌*◌, ◌≤◌}
use Rattle.rules.specs.Table.{load_of}
use Rattle.table.specs.Stored.{table_of}
use Rattle.table.proofs.Tests.{load_from}
use Rattle.table.proofs.load.Given as goal

abbrev pub invariant-loop-task : goal.invariant-loop-task
invariant-loop-task l = (l.sum + load_from l.fn.table l.task-index ≡ load_of (table_of l.fn.table)) × (l.sum ≤ l.task-index * 1000)
