use mathlib.Core.Path.{◌∙◌}
use Rattle.table.proofs.Tests.{table_length}
use Rattle.levels.proofs.Copies.{front_few, front_copy, front_size, front_copied}
use Rattle.jobs.proofs.Keeping.{level_held}
use Rattle.jobs.proofs.moment.Moment.level_of.Goals as goal

pub shared_ref_as_front-level_in : goal.shared_ref_as_front-level_in
shared_ref_as_front-level_in c = let m = c.args.self.now in front_few c.requires.copy (table_length m.tasks.table m.sized)

pub level_in-requires : goal.level_in-requires
level_in-requires c = let m = c.args.self.now in front_copied c.requires.copy (table_length m.tasks.table m.sized)

pub returns : goal.returns
returns c = let m = c.args.self.now in
    let size = table_length m.tasks.table m.sized in
    c.level_in.ensures _ (front_copy c.requires.copy size) (front_size c.requires.copy size) ∙ level_held m.tasks m.jobs m.time _ c.requires _ c.time_left-left.ensures
