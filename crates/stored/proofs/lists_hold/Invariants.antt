use Prim.Native.Nat.{suc, ◌-◌}
use Rattle.rules.specs.Table.{most}
use Rattle.lists.specs.Answers.{lists_of}
use Rattle.stored.proofs.Seeing.{Seeing}
use Rattle.stored.proofs.lists_hold.Given as goal

abbrev pub invariant-loop-l : goal.invariant-loop-l
invariant-loop-l l = Seeing (lists_of l.stored) l.l l.seen

abbrev pub decreases-loop-l : goal.decreases-loop-l
decreases-loop-l l = suc most - l.l
