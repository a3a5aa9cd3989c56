-- What the parts of the test tell, beside crate queue's.
use Rattle.std.specs.Prelude.{ℕ, Bool, not, List, leb}
use Rattle.rules.specs.State.{Last, Never, At}
use Rattle.lists.specs.Answers.{Holds}
use Rattle.jobs.specs.declared.Job.{Job}
use Rattle.jobs.specs.declared.Tasks.{Tasks}
use Rattle.ready.specs.declared.Ready.{Ready}
use Rattle.queue.specs.Asked.{Datable}

-- a job that is active has a release time, and it does not lie after the clock
abbrev pub dated_by : Bool → Last → ℕ → Bool
dated_by active Never clock = not active
dated_by active (At time) clock = leb time clock

-- the jobs have deadlines and levels, and the lists can be read
pub record Tested (tasks : Tasks) (jobs : List Job) (ready : Ready) (clock : ℕ) : Type 0 where
  pub datable : Datable tasks jobs clock
  pub links : Holds ready.lists
