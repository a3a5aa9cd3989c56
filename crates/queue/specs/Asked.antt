-- What has been tested before: the table, its copy, the clock and the release times. So the jobs have deadlines and levels.
use Rattle.std.specs.Prelude.{ℕ, ◌≤◌, ◌≡◌, true, List, take}
use Rattle.rules.specs.Numbers.{Passed, first_of}
use Rattle.rules.specs.Table.{tests_to3}
use Rattle.rules.specs.Levels.{rising_of}
use Rattle.rules.specs.Clock.{last_tick}
use Rattle.rules.specs.State.{At, time_of}
use Rattle.table.specs.declared.Table.{Table}
use Rattle.table.specs.Stored.{table_of}
use Rattle.jobs.specs.declared.Job.{Job}
use Rattle.jobs.specs.declared.Tasks.{Tasks}
use Rattle.jobs.specs.Kept.{released_in, active_in}

-- "its table passes tests 1 to 3; its rising copy of the deadlines agrees with the table"
pub record TasksWhole (tasks : Tasks) : Type 0 where
  pub table : first_of (tests_to3 (table_of tasks.table)) ≡ Passed
  pub copy : take tasks.table.count tasks.rising ≡ rising_of (table_of tasks.table)

-- "every active job has a release time, and no release time lies after the clock"
pub record JobsWhole (table : Table) (jobs : List Job) (clock : ℕ) : Type 0 where
  pub known : (k : ℕ) → active_in table jobs k ≡ true → released_in table jobs k ≡ At (time_of (released_in table jobs k))
  pub past : (k : ℕ) → time_of (released_in table jobs k) ≤ clock

-- .. "its clock is at most 2^40"
pub record Datable (tasks : Tasks) (jobs : List Job) (clock : ℕ) : Type 0 where
  pub tasks_whole : TasksWhole tasks
  pub jobs_whole : JobsWhole tasks.table jobs clock
  pub ticks : clock ≤ last_tick
