use mathlib.Core.Path.{◌≡◌, sym, ◌∙◌}
use mathlib.Core.Bool.{true}
use borrow.Author.Rules.{rules}
use Rattle.laws.proofs.Arrays.{long_map}
use Rattle.rules.specs.Table.{is_task}
use Rattle.kernel.specs.Block.{view_of}
use Rattle.kernel.proofs.Testing.{asked_task, no_such_task, not_running, end_allowed}
use Rattle.kernel.proofs.Block.may_end.Goals as goal
use Rattle.kernel.proofs.Block.may_end.Goals.{Else-not-known}

task : (c : Else-not-known) → is_task (view_of c.args.self).table c.args.task.0 ≡ true
task c = asked_task c.args.self (search (rules, long_map)) c.args.task.0 c.in_table-known.ensures ∙ c.if-not-known.false

pub returns-then-not-known : goal.returns-then-not-known
returns-then-not-known c = let a = c.args in
    no_such_task a.self (search (rules, long_map)) a.task.0 a.time _ (sym c.if-not-known.true ∙ c.in_table-known.ensures)

pub returns-then-not-runs : goal.returns-then-not-runs
returns-then-not-runs c = let a = c.args in
    not_running a.self a.time a.task.0 (task (goal.at.returns-then-not-runs c).Else-not-known) (sym c.is_running-runs.ensures ∙ c.if-not-runs.true)

pub returns-else-not-runs : goal.returns-else-not-runs
returns-else-not-runs c = let a = c.args in
    end_allowed a.self a.time a.task.0 (task (goal.at.returns-else-not-runs c).Else-not-known) (sym c.is_running-runs.ensures ∙ c.if-not-runs.false)
