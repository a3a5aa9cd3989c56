use Prim.Native.Nat.{◌-◌}
use Rattle.rules.specs.Table.{most}
use Rattle.ready.proofs.Draining.{Draining}
use Rattle.ready.proofs.promotion.drain.Given as goal

abbrev pub invariant-loop-moves : goal.invariant-loop-moves
invariant-loop-moves l = Draining l.moment.tasks l.moment.jobs l.moment.time l.level.0 l.initial.now l.now l.moves

abbrev pub decreases-loop-moves : goal.decreases-loop-moves
decreases-loop-moves l = most - l.moves
