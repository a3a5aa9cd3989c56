use mathlib.Core.Path.{◌≡◌}
use native.Mathlib.Omega.{arith}
use borrow.Author.Rules.{rules}
use lib.ListN.{length}
use Rattle.laws.proofs.Arrays.{long_map}
use Rattle.rules.specs.Table.{most}
use Rattle.table.proofs.Tests.{table_length}
use Rattle.levels.proofs.Copies.{front_few, front_copy, front_size, front_copied}
use Rattle.jobs.specs.Kept.{Dated}
use Rattle.jobs.proofs.Keeping.{dated_task}
use Rattle.kernel.specs.Block.{view_of}
use Rattle.kernel.proofs.Testing.{asked_task, asked_dated}
use Rattle.kernel.proofs.Asking.{copy_viewed, plan_none, plan_given}
use Rattle.kernel.proofs.Block.plan_whole.Goals as goal
use Rattle.kernel.proofs.Block.plan_whole.Goals.{Else-not-in_table}

long : (c : Else-not-in_table) → length c.args.self.tasks.table.tasks ≡ most
long c = search (rules, long_map)

dated : (c : Else-not-in_table) → Dated c.args.self.tasks.table c.args.self.jobs c.args.task.0
dated c = asked_dated c.args.self (long c) c.args.task.0 c.requires c.if-not-in_table.ensures

pub returns-then-not-in_table : goal.returns-then-not-in_table
returns-then-not-in_table c = let a = c.args in
    plan_none (view_of a.self) a.task.0 (asked_task a.self (search (rules, long_map)) a.task.0 c.if-not-in_table.ensures)

pub bounds-table-k : goal.bounds-table-k
bounds-table-k c = let told = (goal.at.bounds-table-k c).Else-not-in_table in omega (arith, dated_task (dated told) (long told))

pub shared_ref_as_front-plan_of : goal.shared_ref_as_front-plan_of
shared_ref_as_front-plan_of c =
    let all = long (goal.at.shared_ref_as_front-plan_of c).Else-not-in_table in
    front_few (copy_viewed c.args.self c.requires all) (table_length c.args.self.tasks.table all)

pub plan_of-requires : goal.plan_of-requires
plan_of-requires c =
    let all = long (goal.at.plan_of-requires c).Else-not-in_table in
    front_copied (copy_viewed c.args.self c.requires all) (table_length c.args.self.tasks.table all)

pub returns : goal.returns
returns c =
    let b = c.args.self in
    let told = (goal.at.returns c).Else-not-in_table in
    let all = long told in
    let copy = copy_viewed b c.requires all in
    let size = table_length b.tasks.table all in
    plan_given b c.args.task.0 all (dated told) (c.plan_of.ensures _ (front_copy copy size) (front_size copy size))
