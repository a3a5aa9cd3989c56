-- The jobs that are kept, as the rules' families: a last release and a flag for each task.
use Rattle.std.specs.Prelude.{ℕ, ◌≤◌, ◌≡◌, Bool, true, false, ◌&&◌, List, get_or, Option, None, Some}
use Rattle.laws.specs.Words.{pick}
use Rattle.rules.specs.Numbers.{Passed, first_of}
use Rattle.rules.specs.Table.{is_task, tests_to3}
use Rattle.rules.specs.Clock.{last_tick}
use Rattle.rules.specs.State as Rules
use Rattle.table.specs.declared.Table.{Table}
use Rattle.table.specs.Stored.{table_of}
use Rattle.levels.specs.Copy.{CopyOf}
use Rattle.jobs.specs.declared.Job.{Job}
use Rattle.jobs.specs.declared.moment.Moment.{Moment}
use Rattle.jobs.specs.declared.Tasks.{Tasks}

-- "a task's last accepted release": never, or a time
abbrev pub last_in : Option ℕ → Rules.Last
last_in None = Rules.Never
last_in (Some time) = Rules.At time

-- a place where there is no job
abbrev pub no_job : Job
no_job = record { active = false; last = None }

abbrev pub job_at : List Job → ℕ → Job
job_at jobs k = get_or jobs k no_job

-- of the table's tasks; places that no task has are free, and tell nothing
abbrev pub released_in : Table → List Job → ℕ → Rules.Last
released_in table jobs k = pick (is_task (table_of table) k) (last_in (job_at jobs k).last) Rules.Never

abbrev pub active_in : Table → List Job → ℕ → Bool
active_in table jobs k = is_task (table_of table) k && (job_at jobs k).active

-- the level at a time of each task's job
abbrev pub levels_at : Tasks → List Job → ℕ → ℕ → ℕ
levels_at tasks jobs time = Rules.levels_of (table_of tasks.table) (released_in tasks.table jobs) time

-- the same of what is kept, and the deadlines
abbrev pub levels_in : Moment → ℕ → ℕ
levels_in m = levels_at m.tasks m.jobs m.time

abbrev pub deadlines_in : Moment → ℕ → ℕ
deadlines_in m = Rules.deadline_of (table_of m.tasks.table) (released_in m.tasks.table m.jobs)

-- ---- what is asked

-- the job of task k has a deadline within the clock's range
pub record Dated (table : Table) (jobs : List Job) (k : ℕ) : Type 0 where
  pub tested : first_of (tests_to3 (table_of table)) ≡ Passed
  pub task : is_task (table_of table) k ≡ true
  pub past : Rules.time_of (released_in table jobs k) ≤ last_tick

-- .. and a level at this time
pub record Levelled (tasks : Tasks) (jobs : List Job) (time k : ℕ) : Type 0 where
  pub dated : Dated tasks.table jobs k
  pub copy : CopyOf (table_of tasks.table) tasks.rising
  pub high : time ≤ last_tick
