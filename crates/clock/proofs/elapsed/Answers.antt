use Rattle.std.proofs.Common.{arith}
use Rattle.rules.specs.Clock.{elapsed_of}
use Rattle.clock.proofs.elapsed.Goals as goal

pub returns : goal.returns
unfolding elapsed_of
returns c = omega arith
