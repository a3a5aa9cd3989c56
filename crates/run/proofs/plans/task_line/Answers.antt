use mathlib.Core.Path.{◌≡◌, ap₂, ◌∙◌}
use mathlib.Core.List.{List}
use Prim.Native.Nat.{ℕ}
use native.Mathlib.Omega.{arith}
use borrow.Author.Rules.{rules}
use lib.ListN.{length}
use Rattle.laws.proofs.Arrays.{long_map}
use Rattle.rules.specs.Table.{most}
use Rattle.rules.specs.Levels.{Point}
use Rattle.rules.specs.Text.{plan_text}
use Rattle.text.proofs.Writes.{writes_as}
use Rattle.run.proofs.Laid.{laid_place, laid_first, laid_copied, laid_copy, laid_size, laid_points, laid_few}
use Rattle.run.proofs.plans.task_line.Goals as goal
use Rattle.run.proofs.plans.task_line.Goals.{Start}

long : (c : Start) → length c.args.tasks.table.tasks ≡ most
long c = search (rules, long_map)

pub bounds-table-i : goal.bounds-table-i
bounds-table-i c = omega (arith, laid_place c.args.tasks c.args.task.0 c.requires.0 (long (goal.at.bounds-table-i c).Start))

pub shared_ref_as_front-rising : goal.shared_ref_as_front-rising
shared_ref_as_front-rising c = (laid_place c.args.tasks c.args.task.0 c.requires.0 (long (goal.at.shared_ref_as_front-rising c).Start)).2

pub first_level-level-requires : goal.first_level-level-requires
first_level-level-requires c = laid_copied c.args.tasks c.args.task.0 c.requires.0 (long (goal.at.first_level-level-requires c).Start)

pub plan_of-plan-requires : goal.plan_of-plan-requires
plan_of-plan-requires c = laid_copied c.args.tasks c.args.task.0 c.requires.0 (long (goal.at.plan_of-plan-requires c).Start)

pub plan_line-requires : goal.plan_line-requires
plan_line-requires c = let a = c.args in let size = long (goal.at.plan_line-requires c).Start in
    let plan = c.plan_of-plan.ensures _ (laid_copy a.tasks a.task.0 c.requires.0 size) (laid_size a.tasks a.task.0 c.requires.0 size) in
    let few = laid_few a.tasks a.task.0 c.requires.0 size _ plan in
    (few, omega (arith, few, c.requires.1))

pub returns : goal.returns
returns c = let a = c.args in let size = long (goal.at.returns c).Start in
    let plan = c.plan_of-plan.ensures _ (laid_copy a.tasks a.task.0 c.requires.0 size) (laid_size a.tasks a.task.0 c.requires.0 size) in
    let level =
    c.first_level-level.ensures _ (laid_copy a.tasks a.task.0 c.requires.0 size) (laid_size a.tasks a.task.0 c.requires.0 size)
    ∙ laid_first a.tasks a.task.0 c.requires.0 size in
    writes_as
    (ap₂ (λ (l : ℕ) (ps : List Point). plan_text (record { task = a.task.0; level = l; points = ps })) level (laid_points a.tasks a.task.0 c.requires.0 size _ plan))
    (omega (arith, laid_few a.tasks a.task.0 c.requires.0 size _ plan)) c.plan_line.ensures
