use Rattle.kernel.proofs.Commits.{refuses}
use Rattle.kernel.proofs.Block.clock_whole.Goals as goal

pub returns-in-Err : goal.returns-in-Err
returns-in-Err c =
    refuses _ _ c.requires _ c.clock_tests.ensures c.in-Err.is c.refused.ensures
