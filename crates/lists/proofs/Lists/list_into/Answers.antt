use mathlib.Core.Path.{◌≡◌}
use Prim.Native.Nat.{◌+◌, ◌≤◌}
use native.Mathlib.Omega.{arith}
use lib.ListN.{length, length-set}
use Rattle.lists.proofs.Rests.{writing_start, writing_task, writing_room, writing_turn, writing_end}
use Rattle.lists.proofs.Lists.list_into.Goals as goal
use Rattle.lists.proofs.Lists.list_into.Goals.{In-loop-task}

pub loop-task-init : goal.loop-task-init
loop-task-init c = λ ls st. let a = c.args in writing_start st a.level.0 a.place a.buffer.now

-- a pair more has its room in the buffer, which is as long as it was
room : (c : In-loop-task) → let before = c.args.buffer.now in
    (c.loop-task.at + 2 ≤ length before) × (length c.loop-task.buffer ≡ length before)
room c =
    let p = c.requires in let now = c.loop-task.invariant p.lists p.stores in
    (omega (arith, writing_room now c.loop-task-test.true), now.filling.size)

pub bounds-buffer-at : goal.bounds-buffer-at
bounds-buffer-at c = omega (arith, room (goal.at.bounds-buffer-at c).In-loop-task)

pub bounds-buffer-at-in-loop-task : goal.bounds-buffer-at-in-loop-task
bounds-buffer-at-in-loop-task c = simp length-set (omega (arith, room (goal.at.bounds-buffer-at-in-loop-task c).In-loop-task))

pub bounds-self-i : goal.bounds-self-i
bounds-self-i c = let p = c.requires in
    omega (arith, writing_task (c.loop-task.invariant p.lists p.stores) c.loop-task-test.true)

pub loop-task-smaller : goal.loop-task-smaller
loop-task-smaller c = let p = c.requires in
    omega (arith, writing_room (c.loop-task.invariant p.lists p.stores) c.loop-task-test.true)

pub loop-task-preserved : goal.loop-task-preserved
loop-task-preserved c = λ ls st. writing_turn (c.loop-task.invariant ls st) c.loop-task-test.true

pub returns : goal.returns
returns c = λ ls st. writing_end (c.loop-task.invariant ls st) c.loop-task-test.false
