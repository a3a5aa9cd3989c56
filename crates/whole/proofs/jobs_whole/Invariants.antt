use mathlib.Core.Path.{◌≡◌}
use mathlib.Core.Bool.{true}
use Prim.Native.Nat.{ℕ, suc, ◌<◌}
use Rattle.jobs.specs.Kept.{last_in, job_at}
use Rattle.whole.specs.Parts.{dated_by}
use Rattle.whole.proofs.jobs_whole.Given as goal

abbrev pub invariant-loop-job : goal.invariant-loop-job
invariant-loop-job l =
    (i : ℕ) → i < l.job-index → dated_by (job_at l.moment.jobs (suc i)).active (last_in (job_at l.moment.jobs (suc i)).last) l.moment.time ≡ true
