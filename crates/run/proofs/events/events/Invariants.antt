use Rattle.run.proofs.Turns.{Along}
use Rattle.run.proofs.events.events.Given as goal

abbrev pub invariant-loop-item : goal.invariant-loop-item
invariant-loop-item l = record {
  can : (goal.iterator-loop-item).can_next l.item-iterator;
  ends : (goal.iterator-loop-item).is_finite l.item-iterator;
  along : Along l.stream l.initial.now.block l.initial.out l.out l.now l.item-iterator;
}
