use mathlib.Core.Path.{◌≡◌, sym, ◌∙◌}
use native.Mathlib.Omega.{arith}
use borrow.Author.Rules.{rules}
use lib.ListN.{length}
use Rattle.laws.proofs.Arrays.{long_map}
use Rattle.rules.specs.Table.{most}
use Rattle.jobs.specs.Kept.{Dated}
use Rattle.jobs.proofs.Keeping.{dated_task, dated_time}
use Rattle.kernel.proofs.Testing.{asked_dated, no_such_task, task_active, released_soon, release_allowed}
use Rattle.kernel.proofs.Block.may_release.Goals as goal
use Rattle.kernel.proofs.Block.may_release.Goals.{Else-not-in_table}

long : (c : Else-not-in_table) → length c.args.self.tasks.table.tasks ≡ most
long c = search (rules, long_map)

dated : (c : Else-not-in_table) → Dated c.args.self.tasks.table c.args.self.jobs c.args.task.0
dated c = asked_dated c.args.self (long c) c.args.task.0 c.requires c.if-not-in_table.ensures

pub returns-then-not-in_table : goal.returns-then-not-in_table
returns-then-not-in_table c = let a = c.args in no_such_task a.self (search (rules, long_map)) a.task.0 a.time _ c.if-not-in_table.ensures

pub bounds-self-k : goal.bounds-self-k
bounds-self-k c = let told = (goal.at.bounds-self-k c).Else-not-in_table in omega (arith, dated_task (dated told) (long told))

pub bounds-table-k : goal.bounds-table-k
bounds-table-k c = let told = (goal.at.bounds-table-k c).Else-not-in_table in omega (arith, dated_task (dated told) (long told))

pub too_soon-soon-requires : goal.too_soon-soon-requires
too_soon-soon-requires c = let d = dated (goal.at.too_soon-soon-requires c).Else-not-in_table in omega (arith, dated_time d, d.past)

pub returns-then-job : goal.returns-then-job
returns-then-job c = let a = c.args in task_active a.self a.time a.task.0 (dated (goal.at.returns-then-job c).Else-not-in_table) c.if-job.true

pub returns-then-soon : goal.returns-then-soon
returns-then-soon c =
    let a = c.args in
    let told = (goal.at.returns-then-soon c).Else-not-in_table in
    released_soon a.self a.time a.task.0 (dated told) (long told) c.if-job.false (sym c.too_soon-soon.ensures ∙ c.if-soon.true)

pub returns-else-soon : goal.returns-else-soon
returns-else-soon c =
    let a = c.args in
    let told = (goal.at.returns-else-soon c).Else-not-in_table in
    release_allowed a.self a.time a.task.0 (dated told) (long told) c.if-job.false (sym c.too_soon-soon.ensures ∙ c.if-soon.false)
