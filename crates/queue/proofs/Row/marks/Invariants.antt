use mathlib.Core.Path.{◌≡◌}
use Prim.Native.Nat.{◌-◌, ◌≤◌}
use Rattle.lists.specs.Marks.{marked}
use Rattle.queue.specs.Row.{row_tasks}
use Rattle.queue.proofs.Row.marks.Given as goal

abbrev pub invariant-loop-i : goal.invariant-loop-i
invariant-loop-i l = (l.i ≤ l.self.n) × (l.seen ≡ marked l.initial.seen (row_tasks l.self.bytes l.i))

abbrev pub decreases-loop-i : goal.decreases-loop-i
decreases-loop-i l = l.self.n - l.i
