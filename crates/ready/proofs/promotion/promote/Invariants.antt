use Prim.Native.Nat.{suc, ◌-◌}
use Rattle.rules.specs.Table.{most}
use Rattle.ready.proofs.Promoting.{Promoting}
use Rattle.ready.proofs.promotion.promote.Given as goal

abbrev pub invariant-loop-from : goal.invariant-loop-from
invariant-loop-from l = Promoting l.moment.tasks l.moment.jobs l.moment.time l.initial.now l.now l.total l.from

abbrev pub decreases-loop-from : goal.decreases-loop-from
decreases-loop-from l = suc most - l.from
