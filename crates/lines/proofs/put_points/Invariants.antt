use Rattle.lines.proofs.Points.{PointsWritten}
use Rattle.lines.proofs.put_points.Given as goal

abbrev pub invariant-loop-point : goal.invariant-loop-point
invariant-loop-point l = PointsWritten l.initial.out l.point-items l.point-index l.out
