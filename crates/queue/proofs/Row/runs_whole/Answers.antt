use mathlib.Core.Path.{◌≡◌, sym, ◌∙◌}
use mathlib.Core.Bool.{true}
use Rattle.laws.proofs.Bools.{decides_same}
use Rattle.rules.specs.Table.{is_task}
use Rattle.table.specs.Stored.{table_of}
use Rattle.table.proofs.Tests.{few_passed}
use Rattle.jobs.proofs.Keeping.{task_asked}
use Rattle.queue.specs.Row.{RowDated}
use Rattle.queue.proofs.Dates.{not_task}
use Rattle.queue.proofs.Rows.{row_dated, row_low}
use Rattle.queue.proofs.Row.runs_whole.Goals as goal
use Rattle.queue.proofs.Row.runs_whole.Goals.{Else-not-all_wait, Else-not-in_order, Else-not-in_table}

task : (c : Else-not-in_table) → is_task (table_of c.args.moment.now.tasks.table) c.args.self.now.first.0 ≡ true
task c = let m = c.args.moment.now in sym (task_asked m.tasks.table m.sized c.args.self.now.first.0) ∙ sym c.if-not-in_table.ensures

dated : (c : Else-not-all_wait) → let m = c.args.moment.now in let r = c.args.self.now in RowDated m.tasks.table m.jobs r.first.0 r.bytes r.n
dated c = row_dated c.args.self.now.bytes c.requires (task (goal.at.in_order-requires c).Else-not-in_table) c.if-not-all_wait.ensures

pub returns-then-not-in_table : goal.returns-then-not-in_table
returns-then-not-in_table c = let m = c.args.moment.now in λ w. not_task m.tasks.table m.sized _ (sym c.if-not-in_table.ensures) w.task

pub in_order-requires : goal.in_order-requires
in_order-requires c = dated c

pub marks-requires : goal.marks-requires
marks-requires c = row_low _ _ c.args.moment.now.sized (dated (goal.at.marks-requires c).Else-not-all_wait)

pub active_as-requires : goal.active_as-requires
active_as-requires c = few_passed _ c.args.moment.now.sized c.requires.tasks_whole.table

pub returns : goal.returns
returns c =
    let at = goal.at.returns c in
    decides_same _ _ c.active_as.result
    (λ a. record { task = task at.Else-not-in_table; wait = at.Else-not-all_wait.if-not-all_wait.ensures; order = at.Else-not-in_order.if-not-in_order.ensures; active = a })
    (λ w. w.active) (rw c.marks.ensures at c.active_as.ensures)
