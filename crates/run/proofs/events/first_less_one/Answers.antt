use mathlib.Core.Path.{◌≡◌, ap, ◌∙◌}
use Prim.Native.Nat.{ℕ, ◌-◌}
use native.Mathlib.Omega.{arith}
use borrow.Author.Rules.{rules}
use lib.ListN.{length}
use Rattle.laws.proofs.Arrays.{long_map}
use Rattle.rules.specs.Table.{most}
use Rattle.rules.specs.Levels.{first_level}
use Rattle.rules.proofs.Levels.{first_low}
use Rattle.table.specs.Stored.{table_of}
use Rattle.run.proofs.Laid.{laid_place, laid_first, laid_copied, laid_copy, laid_size}
use Rattle.run.proofs.events.first_less_one.Goals as goal
use Rattle.run.proofs.events.first_less_one.Goals.{After-first_level-level, Start}

long : (c : Start) → length c.args.tasks.table.tasks ≡ most
long c = search (rules, long_map)

first : (c : After-first_level-level) → c.first_level-level.result.0 ≡ first_level (table_of c.args.tasks.table) c.args.task.0
first c =
    let a = c.args in
    let all : length a.tasks.table.tasks ≡ most = search (rules, long_map) in
    c.first_level-level.ensures _ (laid_copy a.tasks a.task.0 c.requires all) (laid_size a.tasks a.task.0 c.requires all)
    ∙ laid_first a.tasks a.task.0 c.requires all

pub bounds-table-i : goal.bounds-table-i
bounds-table-i c = omega (arith, laid_place c.args.tasks c.args.task.0 c.requires (long (goal.at.bounds-table-i c).Start))

pub shared_ref_as_front-first_level : goal.shared_ref_as_front-first_level
shared_ref_as_front-first_level c = (laid_place c.args.tasks c.args.task.0 c.requires (long (goal.at.shared_ref_as_front-first_level c).Start)).2

pub first_level-level-requires : goal.first_level-level-requires
first_level-level-requires c = laid_copied c.args.tasks c.args.task.0 c.requires (long (goal.at.first_level-level-requires c).Start)

pub overflow_sub-result : goal.overflow_sub-result
overflow_sub-result c = let a = c.args in omega (arith, first (goal.at.overflow_sub-result c).After-first_level-level, first_low (table_of a.tasks.table) a.task.0)

pub returns : goal.returns
returns c = (ap (λ (l : ℕ). l - 1) (first (goal.at.returns c).After-first_level-level), search rules)
