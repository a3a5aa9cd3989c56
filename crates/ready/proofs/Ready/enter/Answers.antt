use Rattle.ready.proofs.Runners.{waits_enters, runner_waits}
use Rattle.ready.proofs.Ready.enter.Goals as goal

pub meet-requires : goal.meet-requires
meet-requires c = let p = c.requires in (
  waits_enters _ p.keeps.stores p.task c.level_of-level.ensures,
  waits_enters _ p.keeps.stores (runner_waits p _ c.in-Some.is) c.level_of-held.ensures,
)
