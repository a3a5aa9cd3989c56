use Rattle.stream.proofs.Loading.{Loaded}
use Rattle.stream.proofs.table_in.Given as goal

abbrev pub invariant-loop-item : goal.invariant-loop-item
invariant-loop-item l = record {
  can : (goal.iterator-loop-item).can_next l.item-iterator;
  ends : (goal.iterator-loop-item).is_finite l.item-iterator;
  loaded : Loaded l.stream l.item-iterator l.table;
}
