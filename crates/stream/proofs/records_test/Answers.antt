use Rattle.std.proofs.Common.{sym, ◌∙◌}
use Rattle.std.proofs.lemmas.Result.{err_from_is_err_and}
use Rattle.stream.proofs.Tests.{turn_end, turn_bad, turn_late, turn_task, turn_event}
use Rattle.stream.proofs.records_test.Goals as goal

pub returns-in_err-offset : goal.returns-in_err-offset
returns-in_err-offset c =
    let p = err_from_is_err_and c.from_residual.result c.from_residual.ensures.1 in
    rw (p.1, p.2) (sym (turn_bad _ _ _ _ (rw c.in_err-offset.was at c.in-Some.ensures.steps)) ∙ c.loop-item.invariant.left)

pub returns-in-Task : goal.returns-in-Task
returns-in-Task c = sym (turn_late _ _ _ _ _ (rw (c.in_ok-offset.was, c.in-Task.is) at c.in-Some.ensures.steps) c.if-begun.true) ∙ c.loop-item.invariant.left

pub loop-item-preserved-else-begun : goal.loop-item-preserved-else-begun
loop-item-preserved-else-begun c = record {
  can = tt;
  ends = tt;
  left = sym (turn_task _ _ _ _ _ (rw (c.in_ok-offset.was, c.in-Task.is) at c.in-Some.ensures.steps) c.if-begun.false) ∙ c.loop-item.invariant.left;
}

pub loop-item-preserved : goal.loop-item-preserved
loop-item-preserved c = record {
  can = tt;
  ends = tt;
  left = sym (turn_event _ _ _ _ _ (rw (c.in_ok-offset.was, c.in-Event.is) at c.in-Some.ensures.steps)) ∙ c.loop-item.invariant.left;
}

pub returns : goal.returns
returns c = sym (turn_end _ _ _ c.in-None.ensures.steps) ∙ c.loop-item.invariant.left
