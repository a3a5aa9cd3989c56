use mathlib.Core.Path.{sym}
use Rattle.jobs.specs.Kept.{Levelled}
use Rattle.queue.proofs.Dates.{not_task, datable_levelled}
use Rattle.queue.proofs.Rows.{place_decides}
use Rattle.queue.proofs.Row.waits_right.Goals as goal
use Rattle.queue.proofs.Row.waits_right.Goals.{Else-not-in_table}

levelled : (c : Else-not-in_table) → let m = c.args.moment.now in Levelled m.tasks m.jobs m.time c.args.task.0
levelled c = datable_levelled c.requires c.args.moment.now.sized (sym c.if-not-in_table.ensures)

pub returns-then-not-in_table : goal.returns-then-not-in_table
returns-then-not-in_table c = let m = c.args.moment.now in λ w. not_task m.tasks.table m.sized _ (sym c.if-not-in_table.ensures) w.task

pub level_of-right-requires : goal.level_of-right-requires
level_of-right-requires c = levelled (goal.at.level_of-right-requires c).Else-not-in_table

pub returns : goal.returns
returns c = place_decides (levelled (goal.at.returns c).Else-not-in_table) c.if-task-first.false _ _ c.level_of-right.ensures
