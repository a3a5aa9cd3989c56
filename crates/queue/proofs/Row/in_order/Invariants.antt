use mathlib.Core.Path.{◌≡◌}
use Prim.Native.Nat.{◌-◌, ◌≤◌}
use Rattle.queue.specs.Row.{in_row, InOrder}
use Rattle.queue.proofs.Row.in_order.Given as goal

abbrev pub invariant-loop-i : goal.invariant-loop-i
invariant-loop-i l =
    (l.i ≤ l.self.n) × (in_row l.self.first.0 l.self.bytes l.i ≡ l.ahead.0)
    × InOrder l.moment.tasks.table l.moment.jobs l.self.first.0 l.self.bytes l.i

abbrev pub decreases-loop-i : goal.decreases-loop-i
decreases-loop-i l = l.self.n - l.i
