use Prim.Native.Nat.{◌-◌, ◌≤◌}
use Rattle.queue.specs.Row.{AllWait}
use Rattle.queue.proofs.Row.all_wait.Given as goal

abbrev pub invariant-loop-i : goal.invariant-loop-i
invariant-loop-i l =
    let m = l.moment in
    (l.i ≤ l.self.n) × AllWait m.tasks m.jobs m.time l.self.first.0 l.self.bytes l.i

abbrev pub decreases-loop-i : goal.decreases-loop-i
decreases-loop-i l = l.self.n - l.i
