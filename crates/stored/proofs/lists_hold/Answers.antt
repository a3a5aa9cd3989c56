use borrow.Author.Rules.{rules}
use Rattle.lists.specs.Answers.{lists_of}
use Rattle.stored.proofs.Seeing.{seeing_starts, seeing_ends, seeing_refutes, seeing_turns}
use Rattle.stored.proofs.lists_hold.Goals as goal

pub loop-l-init : goal.loop-l-init
loop-l-init c = seeing_starts (lists_of c.args.stored)

pub returns-in_default : goal.returns-in_default
returns-in_default c = seeing_refutes c.loop-l.invariant (search rules) c.go_along.ensures c.in_default.not-Some

pub loop-l-preserved : goal.loop-l-preserved
loop-l-preserved c = seeing_turns c.loop-l.invariant (search rules) (rw c.in-Some.is at c.go_along.ensures)

pub returns : goal.returns
returns c = seeing_ends c.loop-l.invariant (search rules) c.unlinked.result c.unlinked.ensures
