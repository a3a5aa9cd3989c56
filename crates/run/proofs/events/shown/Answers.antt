use mathlib.Core.Path.{◌≡◌}
use lib.ListN.{length}
use Rattle.rules.specs.State.{waiting}
use Rattle.kernel.specs.Block.{view_of}
use Rattle.kernel.proofs.Asking.{lists_viewed}
use Rattle.run.proofs.Along.{line_accepted, line_refused}
use Rattle.run.proofs.events.shown.Goals as goal
use Rattle.run.proofs.events.shown.Goals.{After-waiting-waiting}

counted : (c : After-waiting-waiting) → c.waiting-waiting.result ≡ length (waiting (view_of c.args.called.block))
counted c = let s = c in c.waiting-waiting.ensures _ (lists_viewed s.args.called.block s.requires)

pub returns-in-Ok : goal.returns-in-Ok
returns-in-Ok c = let w = c in let a = w.args in
    line_accepted a.count a.called w.task_number-running.ensures (counted (goal.at.returns-in-Ok c).After-waiting-waiting) c.in-Ok.is

pub returns-in-Err : goal.returns-in-Err
returns-in-Err c = let w = c in let a = w.args in
    line_refused a.count a.called w.task_number-running.ensures (counted (goal.at.returns-in-Err c).After-waiting-waiting) c.in-Err.is c.number.ensures
