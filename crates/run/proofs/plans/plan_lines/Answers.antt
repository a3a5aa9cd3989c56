use mathlib.Core.Path.{◌≡◌}
use Prim.Native.Nat.{◌≤◌}
use native.Mathlib.Omega.{arith}
use borrow.Author.Rules.{rules}
use lib.ListN.{length}
use Rattle.laws.proofs.Arrays.{long_map}
use Rattle.laws.proofs.Bools.{le_both}
use Rattle.rules.specs.Table.{most}
use Rattle.table.specs.Stored.{table_of}
use Rattle.table.proofs.Tests.{table_length, few_passed}
use Rattle.run.proofs.Planning.{planning_next, planning_end, planning_room}
use Rattle.run.proofs.plans.plan_lines.Goals as goal
use Rattle.run.proofs.plans.plan_lines.Goals.{Start}

long : (c : Start) → length c.args.tasks.table.tasks ≡ most
long c = search (rules, long_map)

counted : (c : Start) → length (table_of c.args.tasks.table) ≡ c.args.tasks.table.count
counted c = table_length c.args.tasks.table (long c)

few : (c : Start) → c.args.tasks.table.count ≤ most
few c = few_passed c.args.tasks.table (long c) c.requires.0.copy.tested

pub overflow_cast-k : goal.overflow_cast-k
overflow_cast-k c = omega (arith, few (goal.at.overflow_cast-k c).Start, c.loop-k-test.true)

pub task_line-requires : goal.task_line-requires
task_line-requires c = let s = c in let i = c.loop-k.invariant in let start = (goal.at.task_line-requires c).Start in
    let in_table : c.loop-k.k ≤ length (table_of s.args.tasks.table) = omega (arith, counted start, c.loop-k-test.true) in (
      record { laid = s.requires.0; task = le_both (i.low, in_table) },
      planning_room _ _ i (omega (arith, counted start, few start)) in_table s.requires.1,
    )

pub loop-k-preserved : goal.loop-k-preserved
loop-k-preserved c = planning_next _ _ c.loop-k.invariant (omega (arith, counted (goal.at.loop-k-preserved c).Start, c.loop-k-test.true)) c.task_line.ensures

pub returns : goal.returns
returns c = let start = (goal.at.returns c).Start in
    planning_end _ _ c.loop-k.invariant (omega (arith, counted start, few start)) (omega (arith, counted start, c.loop-k-test.false))

pub returns-2 : goal.returns-2
returns-2 c = let start = (goal.at.returns-2 c).Start in let small : length (table_of c.args.tasks.table) ≤ most = omega (arith, counted start, few start) in
    let next = planning_next _ _ c.loop-k.invariant (omega (arith, counted start, c.loop-k-test.true)) c.task_line.ensures in
    planning_end _ _ next small (omega (arith, counted start))
