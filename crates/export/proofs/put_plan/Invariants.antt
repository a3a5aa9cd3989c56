use Rattle.export.proofs.Plans.{PointsLeft}
use Rattle.export.proofs.put_plan.Given as goal

abbrev pub invariant-loop-i : goal.invariant-loop-i
invariant-loop-i l = PointsLeft l.initial.points l.fn.plan l.i l.points
