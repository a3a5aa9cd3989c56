-- A whole block's view is a whole state, and back. Assumes nothing.
use mathlib.Core.Path.{◌≡◌}
use mathlib.Core.List.{List}
use Prim.Native.Nat.{ℕ}
use lib.ListN.{take}
use Rattle.rules.specs.Levels.{rising_of}
use Rattle.rules.specs.State as Rules
use Rattle.table.specs.Stored.{table_of}
use Rattle.lists.specs.Answers.{Holds}
use Rattle.lists.proofs.Walks.{lists_held}
use Rattle.jobs.specs.declared.Job.{Job}
use Rattle.jobs.specs.declared.Tasks.{Tasks}
use Rattle.ready.specs.declared.Ready.{Ready}
use Rattle.whole.specs.Whole.{view_in, Whole}

module _ {tasks : Tasks} {jobs : List Job} {ready : Ready} {clock : ℕ} where
  -- the state that a whole block holds is whole
  pub whole_state : Whole tasks jobs ready clock → (reading : ℕ) → Rules.Whole (view_in tasks jobs ready clock reading)
  whole_state w reading =
      record {
        table = w.tasks_whole.table;
        runner = λ k e. let h = w.runner k e in record { active = h.active; task = h.task };
        waiter = λ l k m. let h = w.waiter l k m in record { active = h.active; task = h.task };
        clock = w.ticks;
        known = w.jobs_whole.known;
        past = w.jobs_whole.past;
        once = w.once;
        place = w.place;
        order = w.order;
        first = w.first;
        nobody = w.nobody;
      }

  -- .. and a block is whole that holds such a state, whose copy agrees with its table, and whose links and map store lists
  pub state_whole : {reading : ℕ} → Rules.Whole (view_in tasks jobs ready clock reading) → take tasks.table.count tasks.rising ≡ rising_of (table_of tasks.table)
      → Holds ready.lists → Whole tasks jobs ready clock
  state_whole w copy links =
      record {
        tasks_whole = record { table = w.table; copy = copy };
        runner = λ k e. let h = w.runner k e in record { active = h.active; task = h.task };
        waiter = λ l k m. let h = w.waiter l k m in record { active = h.active; task = h.task };
        ticks = w.clock;
        jobs_whole = record { known = w.known; past = w.past };
        once = w.once;
        links = links;
        place = w.place;
        order = w.order;
        first = w.first;
        nobody = w.nobody;
        map = (lists_held links.stores).map;
      }
