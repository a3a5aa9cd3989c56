use Rattle.run.proofs.Turns.{along_end, along_bad, along_task, along_event}
use Rattle.run.proofs.events.events.Goals as goal
use Rattle.run.proofs.events.events.Goals.{in-None, in-Some+in_default}

pub loop-item-preserved-in-Event : goal.loop-item-preserved-in-Event
loop-item-preserved-in-Event c = record {
  can = tt;
  ends = tt;
  along = along_event _ _ _ _ _ _ c.loop-item.invariant.along _ _ _ (rw (c.in-Ok.is, c.in-Event.is) at c.in-Some.ensures.steps) _ _ c.event-now.ensures;
}

pub loop-item-preserved : goal.loop-item-preserved
loop-item-preserved c = record {
  can = tt;
  ends = tt;
  along = along_task _ _ _ _ _ _ c.loop-item.invariant.along _ _ _ (rw (c.in-Ok.is, c.in_default-record.is) at c.in-Some.ensures.steps);
}

pub returns : goal.returns
returns c =
    let along = c.loop-item.invariant.along in
    rw c.totals_of.ensures (elim c.match-next.branch [
      | in-None w ↦ along_end _ _ _ _ _ _ along c.requires.1 _ w.in-None.ensures.steps
      | in-Some+in_default w ↦ along_bad _ _ _ _ _ _ along c.requires.1 _ _ (rw w.in_default.is at w.in-Some.ensures.steps)
    ])
