use native.Mathlib.Omega.{arith}
use Rattle.jobs.proofs.Keeping.{dated_task}
use Rattle.queue.proofs.may_lead.Goals as goal

pub bounds-moment-a : goal.bounds-moment-a
bounds-moment-a c = omega (arith, dated_task c.requires.0 c.args.moment.now.sized)

pub bounds-moment-b : goal.bounds-moment-b
bounds-moment-b c = omega (arith, dated_task c.requires.1 c.args.moment.now.sized)
