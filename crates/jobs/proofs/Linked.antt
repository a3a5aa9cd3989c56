-- The functions of this crate in one table, and the code of those that crates above call, in each world of tables that has this one and those of the
-- crates below (`In`): for a proof that runs them. Assumes nothing.
use prog.Linked.{Tree, World, Holds}
use Rattle.laws.proofs.Linking.{Found}
use Rattle.levels.proofs.Linked as levels
use Rattle.jobs.proofs.TheLink as link
use Rattle.jobs.proofs.moment.Moment.deadline.Symbol as deadline'
use Rattle.jobs.proofs.in_table.Symbol as in_table'
use Rattle.jobs.proofs.moment.Moment.level_of.Symbol as level_of'
use Rattle.jobs.proofs.moment.Moment.time_left.Symbol as time_left'
use Rattle.jobs.proofs.time_of.Symbol as time_of'

abbrev pub functions : Tree
functions = link.table

abbrev pub In : World → Type 0
In W = Holds W "jobs" functions × levels.In W

below : (W : World) → In W → link.Below W
below W i =
    (levels.level_in W i.1, (levels.remaining W i.1, tt))

pub deadline : Found In deadline'.code
deadline W i = link.linked-jobs::moment::Moment::deadline W i.0 (below W i)

pub in_table : Found In in_table'.code
in_table W i = link.linked-jobs::in_table W i.0 (below W i)

pub level_of : Found In level_of'.code
level_of W i = link.linked-jobs::moment::Moment::level_of W i.0 (below W i)

pub time_left : Found In time_left'.code
time_left W i = link.linked-jobs::moment::Moment::time_left W i.0 (below W i)

pub time_of : Found In time_of'.code
time_of W i = link.linked-jobs::time_of W i.0 (below W i)
