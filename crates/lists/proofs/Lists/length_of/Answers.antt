use native.Mathlib.Omega.{arith}
use Rattle.lists.proofs.Few.{list_few}
use Rattle.lists.proofs.Rests.{counting_start, counting_task, counting_more, counting_turn, counting_end}
use Rattle.lists.proofs.Lists.length_of.Goals as goal

pub loop-x-init : goal.loop-x-init
loop-x-init c = λ ls st. counting_start st c.args.level.0

pub bounds-self-i : goal.bounds-self-i
bounds-self-i c = let p = c.requires in
    omega (arith, counting_task (c.loop-x.invariant p.lists p.stores) c.loop-x-test.true)

pub overflow_add-n : goal.overflow_add-n
overflow_add-n c = let p = c.requires in
    omega (arith, counting_more (c.loop-x.invariant p.lists p.stores) c.loop-x-test.true, list_few p.stores.waits c.args.level.0)

pub loop-x-smaller : goal.loop-x-smaller
loop-x-smaller c = let p = c.requires in
    omega (arith, counting_more (c.loop-x.invariant p.lists p.stores) c.loop-x-test.true, list_few p.stores.waits c.args.level.0)

pub loop-x-preserved : goal.loop-x-preserved
loop-x-preserved c = λ ls st. counting_turn (c.loop-x.invariant ls st) c.loop-x-test.true

pub returns : goal.returns
returns c = λ ls st. counting_end (c.loop-x.invariant ls st) c.loop-x-test.false
