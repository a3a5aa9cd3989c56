-- The deadlines and levels that follow from what has been tested. Assumes nothing.
use mathlib.Core.Path.{◌≡◌, sym, ◌∙◌}
use mathlib.Core.Bool.{true, false, ◌&&◌}
use mathlib.Core.List.{List}
use Prim.Native.Nat.{ℕ}
use native.Mathlib.Omega.{arith}
use lib.Dec.{leb}
use lib.ListN.{length}
use Rattle.laws.proofs.Bools.{true_false}
use Rattle.rules.specs.Table.{most, is_task}
use Rattle.table.specs.declared.Table.{Table}
use Rattle.table.specs.Stored.{table_of}
use Rattle.levels.proofs.Copies.{copy_counted}
use Rattle.jobs.specs.declared.Job.{Job}
use Rattle.jobs.specs.declared.Tasks.{Tasks}
use Rattle.jobs.specs.Kept.{Dated, Levelled}
use Rattle.jobs.proofs.Keeping.{task_asked}
use Rattle.queue.specs.Asked.{Datable}

-- a table that was asked has no such task
pub not_task : (table : Table) → length table.tasks ≡ most → (k : ℕ) → (leb 1 k && leb k table.count) ≡ false → is_task (table_of table) k ≡ true → ⊥
not_task table long k f t = true_false (is_task (table_of table) k) t (sym (task_asked table long k) ∙ f)

module _ {tasks : Tasks} {jobs : List Job} {clock : ℕ} (w : Datable tasks jobs clock) where
  pub datable_dated : {k : ℕ} → is_task (table_of tasks.table) k ≡ true → Dated tasks.table jobs k
  datable_dated {k} t = record { tested = w.tasks_whole.table; task = t; past = omega (arith, w.jobs_whole.past k, w.ticks) }

  pub datable_levelled : length tasks.table.tasks ≡ most → {k : ℕ} → (leb 1 k && leb k tasks.table.count) ≡ true → Levelled tasks jobs clock k
  datable_levelled long {k} t =
      record {
        dated = datable_dated (sym (task_asked tasks.table long k) ∙ t);
        copy = copy_counted tasks.table tasks.rising long w.tasks_whole.table w.tasks_whole.copy;
        high = w.ticks;
      }
