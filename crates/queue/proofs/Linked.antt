-- The functions of this crate in one table, and the code of those that crates above call, in each world of tables that has this one and those of the
-- crates below (`In`): for a proof that runs them. Assumes nothing.
use prog.Linked.{Tree, World, Holds}
use Rattle.laws.proofs.Linking.{Found}
use Rattle.jobs.proofs.Linked as jobs
use Rattle.queue.proofs.TheLink as link
use Rattle.queue.proofs.active_as.Symbol as active_as'
use Rattle.queue.proofs.Row.runs_whole.Symbol as runs_whole'

abbrev pub functions : Tree
functions = link.table

abbrev pub In : World → Type 0
In W = Holds W "queue" functions × jobs.In W

below : (W : World) → In W → link.Below W
below W i =
    (jobs.in_table W i.1, (jobs.deadline W i.1, (jobs.level_of W i.1, (jobs.time_of W i.1, tt))))

pub active_as : Found In active_as'.code
active_as W i = link.linked-queue::active_as W i.0 (below W i)

pub runs_whole : Found In runs_whole'.code
runs_whole W i = link.linked-queue::Row::runs_whole W i.0 (below W i)
