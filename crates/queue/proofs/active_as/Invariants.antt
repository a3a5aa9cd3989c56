use mathlib.Core.Path.{◌≡◌}
use Prim.Native.Nat.{ℕ, suc, ◌<◌}
use Rattle.lists.specs.Marks.{seen_at}
use Rattle.jobs.specs.Kept.{job_at}
use Rattle.queue.proofs.active_as.Given as goal

abbrev pub invariant-loop-i : goal.invariant-loop-i
invariant-loop-i l = (j : ℕ) → j < l.i → (job_at l.fn.moment.jobs (suc j)).active ≡ seen_at l.fn.seen (suc j)
