use borrow.Author.Rules.{rules}
use Rattle.lists.specs.Answers.{lists_of}
use Rattle.stored.proofs.Seeing.{going_starts, going_ends, going_misses, going_strays, going_meets, going_falls, going_turns}
use Rattle.stored.proofs.go_along.Goals as goal

pub loop-x-init : goal.loop-x-init
loop-x-init c = going_starts (lists_of c.args.stored) c.args.l c.args.before (search rules)

pub returns-then-n-gt-MOST : goal.returns-then-n-gt-MOST
returns-then-n-gt-MOST c = going_strays c.loop-x.invariant c.loop-x-test.true (search rules)

pub returns-then-seen-n : goal.returns-then-seen-n
returns-then-seen-n c = going_meets c.loop-x.invariant c.loop-x-test.true (search rules) c.if-seen-n.true

pub loop-x-smaller : goal.loop-x-smaller
loop-x-smaller c = going_falls c.loop-x.invariant c.loop-x-test.true (search rules) c.if-seen-n.false

pub loop-x-preserved : goal.loop-x-preserved
loop-x-preserved c = going_turns c.loop-x.invariant c.loop-x-test.true (search rules) c.if-seen-n.false

pub returns-then-last-passed : goal.returns-then-last-passed
returns-then-last-passed c = going_misses c.loop-x.invariant c.loop-x-test.false c.if-last-passed.true

pub returns : goal.returns
returns c = going_ends c.loop-x.invariant c.loop-x-test.false c.if-last-passed.false
