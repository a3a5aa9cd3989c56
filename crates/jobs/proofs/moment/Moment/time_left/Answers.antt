use native.Mathlib.Omega.{arith}
use Rattle.jobs.proofs.Keeping.{dated_small}
use Rattle.jobs.proofs.moment.Moment.time_left.Goals as goal

pub remaining-requires : goal.remaining-requires
remaining-requires c = (omega (arith, c.deadline.ensures, dated_small c.requires.0), omega (arith, c.requires.1))
