use Rattle.std.proofs.Common.{rules, ◌≡◌, length, arith}
use Rattle.laws.proofs.Arrays.{long_map}
use Rattle.rules.specs.Table.{most}
use Rattle.export.proofs.Plans.{points_turn, points_end}
use Rattle.export.proofs.put_plan.Goals as goal
use Rattle.export.proofs.put_plan.Goals.{Start}

long : (c : Start) → length c.args.plan.points ≡ most
long c = search (rules, long_map)

pub loop-i-preserved : goal.loop-i-preserved
loop-i-preserved c =
    let room = long (goal.at.loop-i-preserved c).Start in
    points_turn c.args.plan (omega arith) c.loop-i.i c.loop-i.invariant _ (omega arith)

pub returns : goal.returns
returns c =
    let room = long (goal.at.returns c).Start in
    points_end c.args.plan (omega arith) c.loop-i.i c.loop-i.invariant (omega arith)
