use Rattle.table.proofs.Tests.{few_passed}
use Rattle.whole.proofs.is_whole.Goals as goal

pub jobs_whole-requires : goal.jobs_whole-requires
jobs_whole-requires c = few_passed _ c.args.moment.now.sized c.if-not-tasks_whole.ensures.table
