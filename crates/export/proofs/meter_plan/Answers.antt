use Rattle.export.proofs.Plans.{plan_few, plans_given, plans_refused}
use Rattle.export.proofs.meter_plan.Goals as goal

pub put_plan-requires : goal.put_plan-requires
put_plan-requires c = plan_few c.load.result _ c.in-Ok.plan c.in-Ok.ensures

pub returns-in-Ok : goal.returns-in-Ok
returns-in-Ok c = plans_given c.args.block.now _ c.args.points.now c.if-block-ne-BLOCK_BYTES.false c.load.ensures c.in-Ok.plan c.in-Ok.ensures c.put_plan.ensures

pub returns-in-Err : goal.returns-in-Err
returns-in-Err c = plans_refused c.args.block.now _ c.args.points.now c.if-block-ne-BLOCK_BYTES.false c.load.ensures c.in-Err.refusal c.in-Err.ensures c.number.ensures
