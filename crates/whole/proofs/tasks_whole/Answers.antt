use mathlib.Core.Path.{sym}
use Rattle.table.proofs.Tests.{few_passed}
use Rattle.whole.proofs.tasks_whole.Goals as goal

pub agrees-requires : goal.agrees-requires
agrees-requires c = few_passed _ c.args.moment.now.sized (sym (c.in-Ok.ensures))
