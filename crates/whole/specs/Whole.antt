-- "A block is whole when", condition by condition, in the paper's order and words, over the block's fields. Its last reading may be anything.
-- (Two pairs of conditions, those of the table and those of release times, are records of queue's specs/Asked: the crates below ask for them.)
use Rattle.std.specs.Prelude.{ℕ, suc, ◌≤◌, ◌<◌, ◌≡◌, List, [], eqb}
use Rattle.laws.specs.Words.{digit, count, In, Sorted}
use Rattle.laws.specs.Bits.{bit_at}
use Rattle.rules.specs.Table.{most}
use Rattle.rules.specs.Clock.{last_tick}
use Rattle.rules.specs.State.{Nobody, One, State, listing, everyone, MayLead, ActiveTask}
use Rattle.table.specs.Stored.{table_of}
use Rattle.lists.specs.Links.{occupied}
use Rattle.lists.specs.Answers.{who_in, Holds}
use Rattle.lists.specs.Held.{list_at}
use Rattle.jobs.specs.declared.Job.{Job}
use Rattle.jobs.specs.declared.Tasks.{Tasks}
use Rattle.jobs.specs.Kept.{released_in, active_in, levels_at}
use Rattle.ready.specs.declared.Ready.{Ready}
use Rattle.ready.specs.Keep.{ready_in}
use Rattle.queue.specs.Asked.{TasksWhole, JobsWhole}

-- a block's parts as a state of the rules
abbrev pub view_in : Tasks → List Job → Ready → ℕ → ℕ → State
view_in tasks jobs ready clock reading =
    record {
      table = table_of tasks.table;
      clock = clock;
      reading = reading;
      released = released_in tasks.table jobs;
      active = active_in tasks.table jobs;
      ready = ready_in ready;
    }

pub record Whole (tasks : Tasks) (jobs : List Job) (ready : Ready) (clock : ℕ) : Type 0 where
  -- "its table passes tests 1 to 3; its rising copy of the deadlines agrees with the table"
  pub tasks_whole : TasksWhole tasks
  -- "the running job and all waiting ones are active jobs of tasks in the table"
  pub runner : (k : ℕ) → who_in ready.running ≡ One k → ActiveTask (view_in tasks jobs ready clock 0) k
  pub waiter : (l k : ℕ) → In k (list_at ready.lists l) → ActiveTask (view_in tasks jobs ready clock 0) k
  -- "its clock is at most 2^40"
  pub ticks : clock ≤ last_tick
  -- "every active job has a release time, and no release time lies after the clock"
  pub jobs_whole : JobsWhole tasks.table jobs clock
  -- "every active job either runs or waits, once": and whatever the links and the ends of lists name is true
  pub once : (k : ℕ) → count (eqb k) (everyone (ready_in ready)) ≡ digit (active_in tasks.table jobs k)
  pub links : Holds ready.lists
  -- "each waits in the list of its level at the block's clock"
  pub place : (l k : ℕ) → In k (list_at ready.lists l) → levels_at tasks jobs clock k ≡ l
  -- "each list is in order of deadline, earlier first, and of equal deadlines no later release time stands ahead of an earlier one"
  pub order : (l : ℕ) → Sorted (MayLead (table_of tasks.table) (released_in tasks.table jobs)) (list_at ready.lists l)
  -- "the running job comes before or level with every waiting one in that same order"
  pub first : (k j : ℕ) → who_in ready.running ≡ One k → In j (listing (list_at ready.lists)) → MayLead (table_of tasks.table) (released_in tasks.table jobs) k j
  -- "nobody runs only if nobody waits"
  pub nobody : who_in ready.running ≡ Nobody → listing (list_at ready.lists) ≡ []
  -- "the map of occupied lists tells the truth": bit 0 is the list of level 1
  pub map : (i : ℕ) → i < most → bit_at ready.lists.map i ≡ digit (occupied (list_at ready.lists (suc i)))
