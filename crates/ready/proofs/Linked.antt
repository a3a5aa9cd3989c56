-- The functions of this crate in one table, and the code of those that crates above call, in each world of tables that has this one and those of the
-- crates below (`In`): for a proof that runs them. Assumes nothing.
use prog.Linked.{Tree, World, Holds}
use Rattle.laws.proofs.Linking.{Found}
use Rattle.jobs.proofs.Linked as jobs
use Rattle.levels.proofs.Linked as levels
use Rattle.lists.proofs.Linked as lists
use Rattle.ready.proofs.TheLink as link
use Rattle.ready.proofs.Ready.enter.Symbol as enter'
use Rattle.ready.proofs.Ready.leave.Symbol as leave'
use Rattle.ready.proofs.Ready.relevel.Symbol as relevel'

abbrev pub functions : Tree
functions = link.table

abbrev pub In : World → Type 0
In W = Holds W "ready" functions × jobs.In W × lists.In W

below : (W : World) → In W → link.Below W
below W i =
    (jobs.level_of W i.1, (jobs.time_left W i.1, (levels.has_left W i.1.1, (levels.level_in W i.1.1, (lists.front W i.2, (lists.lowest W i.2, (lists.lowest_from W i.2, (lists.move_front W i.2, (lists.pop_front W i.2, (lists.push_back W i.2, (lists.push_front W i.2, tt)))))))))))

pub enter : Found In enter'.code
enter W i = link.linked-ready::Ready::enter W i.0 (below W i)

pub leave : Found In leave'.code
leave W i = link.linked-ready::Ready::leave W i.0 (below W i)

pub relevel : Found In relevel'.code
relevel W i = link.linked-ready::Ready::relevel W i.0 (below W i)
