-- What the jobs that are kept tell of a task, and what a store changes. Assumes nothing.
use mathlib.Core.Path.{◌≡◌, sym, ap, ap₂, ◌∙◌}
use mathlib.Core.Bool.{Bool, true, false, ◌&&◌}
use mathlib.Core.List.{List}
use Prim.Native.Nat.{ℕ, ◌+◌, ◌-◌, ◌≤◌, ◌<◌, ◌^◌}
use native.Mathlib.Omega.{arith}
use lib.Dec.{leb}
use lib.IntN.{ℤ}
use lib.ListN.{length, set}
use mir.Syntax.{w64}
use mir.Val.{to_z, of_z}
use lib.Seq.{get_or-set_other}
use Rattle.laws.specs.Words.{pick, put}
use Rattle.laws.proofs.Bools.{both_le, true_false}
use Rattle.laws.proofs.Families.{set_put}
use Rattle.rules.specs.Table.{Task, most, is_task, task_at}
use Rattle.rules.specs.Levels.{remaining_of, level_of}
use Rattle.rules.specs.State.{time_of, deadline_of}
use Rattle.rules.specs.State as Rules
use Rattle.rules.proofs.Levels.{level_low}
use Rattle.rules.proofs.Tables.{passed_to_3}
use Rattle.table.specs.declared.Table.{Table}
use Rattle.table.specs.Stored.{table_of}
use Rattle.table.proofs.Tests.{nth, table_length, table_at, few_passed}
use Rattle.levels.proofs.Casts.{remaining_held}
use Rattle.jobs.specs.declared.Job.{Job}
use Rattle.jobs.specs.declared.Tasks.{Tasks}
use Rattle.jobs.specs.Kept.{last_in, no_job, job_at, released_in, active_in, levels_at, Dated, Levelled}

-- whether a stored table has a task
pub task_asked : (table : Table) → length table.tasks ≡ most → (k : ℕ) → (leb 1 k && leb k table.count) ≡ is_task (table_of table) k
task_asked table long k = ap (λ (n : ℕ). leb 1 k && leb k n) (sym (table_length table long))

module _ {table : Table} {jobs : List Job} {k : ℕ} (w : Dated table jobs k) where
  pub dated_time : time_of (released_in table jobs k) ≡ time_of (last_in (job_at jobs k).last)
  dated_time = rw w.task

  -- a deadline is far below the end of a signed number's range
  pub dated_small : deadline_of (table_of table) (released_in table jobs) k ≤ 2 ^ 40 + 2 ^ 30
  dated_small = omega (arith, w.past, ((passed_to_3 (table_of table) w.tested).2 k (both_le w.task)).0.1.1)

  module _ (long : length table.tasks ≡ most) where
    pub dated_task : (1 ≤ k) × (k ≤ table.count) × (table.count ≤ most)
    dated_task =
        let h : (1 ≤ k) × (k ≤ length (table_of table)) = both_le w.task in
        (h.0, omega (arith, h.1, table_length table long), few_passed table long w.tested)

    -- the task's entry of the stored table
    pub dated_entry : task_at (table_of table) k ≡ nth table (k - 1)
    dated_entry = let h = dated_task in table_at table long h.2 (k - 1) (omega arith)

    -- "r + D", from the job's place and the task's
    pub dated_deadline : time_of (last_in (job_at jobs k).last) + (nth table (k - 1)).d ≡ deadline_of (table_of table) (released_in table jobs) k
    dated_deadline = ap₂ (λ (a b : ℕ). a + b) (sym dated_time) (sym (ap (λ (x : Task). x.d) dated_entry))

-- ---- levels

module _ (tasks : Tasks) (jobs : List Job) (time k : ℕ) where
  abbrev deadline : ℕ
  deadline = deadline_of (table_of tasks.table) (released_in tasks.table jobs) k

  pub levels_low : 1 ≤ levels_at tasks jobs time k
  levels_low = level_low (table_of tasks.table) deadline time

  -- from the remaining time as it lies in 64 bits
  pub level_held : Levelled tasks jobs time k → (z : ℤ) → z ≡ remaining_of deadline time → level_of (table_of tasks.table) (to_z w64 (of_z w64 z)) ≡ levels_at tasks jobs time k
  level_held w z e = ap (level_of (table_of tasks.table)) (remaining_held z deadline time (omega (arith, dated_small w.dated)) (omega (arith, w.high)) e)

-- ---- a job is stored at the place of task k

module _ (table : Table) (jobs : List Job) (k : ℕ) (v : Job) (task : is_task (table_of table) k ≡ true) (here : k < length jobs) where
  pub stored_released : released_in table (set jobs k v) ≡ put (released_in table jobs) k (last_in v.last)
  stored_released =
      set_put (λ (j : ℕ) (x : Job). pick (is_task (table_of table) j) (last_in x.last) Rules.Never) jobs k v no_job here
      ∙ ap (λ (b : Bool). put (released_in table jobs) k (pick b (last_in v.last) Rules.Never)) task

  pub stored_active : active_in table (set jobs k v) ≡ put (active_in table jobs) k v.active
  stored_active =
      set_put (λ (j : ℕ) (x : Job). is_task (table_of table) j && x.active) jobs k v no_job here
      ∙ ap (λ (b : Bool). put (active_in table jobs) k (b && v.active)) task

  -- places that no task has stay
  pub stored_free : (j : ℕ) → is_task (table_of table) j ≡ false → job_at (set jobs k v) j ≡ job_at jobs j
  stored_free j e = get_or-set_other jobs k j v no_job (λ h. true_false (is_task (table_of table) j) (ap (is_task (table_of table)) h ∙ task) e)
