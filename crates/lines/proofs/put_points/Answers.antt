use Rattle.std.proofs.Common.{take}
use Rattle.lines.proofs.Points.{points_none, points_next}
use Rattle.lines.proofs.put_points.Goals as goal

pub loop-point-init : goal.loop-point-init
loop-point-init c = points_none _ (take c.args.plan.count c.args.plan.points)

pub loop-point-preserved : goal.loop-point-preserved
loop-point-preserved c =
    points_next (take c.args.plan.count c.args.plan.points) c.loop-point.point-index _ c.loop-point.invariant c.loop-point-test.true
    c.column.ensures c.byte.ensures c.number.ensures
