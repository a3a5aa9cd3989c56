use Rattle.std.proofs.Common.{arith}
use Rattle.records.proofs.Results.{from_front}
use Rattle.stream.proofs.Loading.{loaded_start, loaded_end, loaded_bad, loaded_event, loaded_room, loaded_task}
use Rattle.stream.proofs.table_in.Goals as goal

pub loop-item-init : goal.loop-item-init
loop-item-init c = record { can = tt; ends = tt; loaded = loaded_start _ _ (from_front c.into_iter-item-iterator.ensures.into_iter_gives c.new-item-items.ensures) }

pub added-table-requires : goal.added-table-requires
added-table-requires c = omega (arith, loaded_room _ _ _ _ c.loop-item.invariant.loaded _ _ (rw (c.in-Ok.is, c.in-Task.is) at c.in-Some.ensures.steps))

pub loop-item-preserved-in-Task : goal.loop-item-preserved-in-Task
loop-item-preserved-in-Task c = record {
  can = tt;
  ends = tt;
  loaded = loaded_task _ _ _ _ c.loop-item.invariant.loaded _ _ (rw (c.in-Ok.is, c.in-Task.is) at c.in-Some.ensures.steps) _ c.added-table.ensures;
}

pub loop-item-preserved : goal.loop-item-preserved
loop-item-preserved c = record {
  can = tt;
  ends = tt;
  loaded = loaded_event _ _ _ _ c.loop-item.invariant.loaded _ _ (rw (c.in-Ok.is, c.in_default-record.is) at c.in-Some.ensures.steps);
}

pub returns-in-None : goal.returns-in-None
returns-in-None c = loaded_end _ _ _ _ c.loop-item.invariant.loaded c.in-None.ensures.steps

pub returns-in_default : goal.returns-in_default
returns-in_default c = loaded_bad _ _ _ _ c.loop-item.invariant.loaded _ (rw c.in_default.is at c.in-Some.ensures.steps)
