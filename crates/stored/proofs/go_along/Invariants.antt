use mathlib.Core.Bool.{not}
use Rattle.laws.specs.Words.{count}
use Rattle.lists.specs.Answers.{lists_of}
use Rattle.stored.proofs.Seeing.{Going}
use Rattle.stored.proofs.go_along.Given as goal

abbrev pub invariant-loop-x : goal.invariant-loop-x
invariant-loop-x l = Going (lists_of l.stored) l.l l.fn.before l.seen l.passed l.x.0

abbrev pub decreases-loop-x : goal.decreases-loop-x
decreases-loop-x l = count not l.seen
