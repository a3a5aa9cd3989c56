use native.Mathlib.Omega.{arith}
use Rattle.jobs.proofs.Keeping.{dated_task, dated_deadline}
use Rattle.jobs.proofs.moment.Moment.deadline.Goals as goal

pub bounds-self-k : goal.bounds-self-k
bounds-self-k c = omega (arith, dated_task c.requires c.args.self.now.sized)

pub bounds-self-k-2 : goal.bounds-self-k-2
bounds-self-k-2 c = omega (arith, dated_task c.requires c.args.self.now.sized)

pub returns : goal.returns
returns c = omega (arith, c.time_of.ensures, dated_deadline c.requires c.args.self.now.sized)
