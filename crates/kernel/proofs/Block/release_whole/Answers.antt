use Rattle.kernel.proofs.Commits.{refuses}
use Rattle.kernel.proofs.Block.release_whole.Goals as goal

pub returns-in-Err : goal.returns-in-Err
returns-in-Err c =
    refuses _ _ c.requires _ c.release_tests.ensures c.in-Err.is c.refused.ensures
