-- The running job and behind it those that wait, read from a listing's bytes. Assumes nothing.
use mathlib.Core.Path.{◌≡◌, sym, ◌∙◌}
use mathlib.Core.Bool.{Bool, true}
use mathlib.Core.List.{List, [], ◌∷◌}
use Prim.Native.Nat.{ℕ, zero, suc, ◌+◌, ◌≤◌}
use native.Mathlib.Numerals.{add-one}
use native.Mathlib.Omega.{arith}
use borrow.Author.Tests.{eqb-true, eq-eqb}
use lib.Dec.{eqb}
use lib.ListN.{length, set}
use Rattle.laws.specs.Words.{Decides}
use Rattle.laws.proofs.Bools.{test_decides}
use Rattle.rules.specs.Table.{most, is_task}
use Rattle.table.specs.declared.Table.{Table}
use Rattle.table.specs.Stored.{table_of}
use Rattle.lists.specs.Marks.{marked}
use Rattle.lists.proofs.Marks.{marked_append}
use Rattle.jobs.specs.declared.Job.{Job}
use Rattle.jobs.specs.declared.Tasks.{Tasks}
use Rattle.jobs.specs.Kept.{levels_at, Levelled}
use Rattle.jobs.proofs.Keeping.{dated_task}
use Rattle.queue.specs.Asked.{Datable}
use Rattle.queue.specs.Row.{byte_task, row_tasks, WaitsRight, AllWait, in_row, RowDated}
use Rattle.queue.proofs.Dates.{datable_dated}

-- ---- who may stand where

pub place_decides : {tasks : Tasks} {jobs : List Job} {clock first k : ℕ} → Levelled tasks jobs clock k → (k ≡ first → ⊥) → (r l : ℕ)
    → r ≡ levels_at tasks jobs clock k → Decides (eqb r l) (WaitsRight tasks jobs clock first l k)
place_decides {tasks} {jobs} {clock} {first} {k} w d r l e =
    test_decides (WaitsRight tasks jobs clock first l k) (eqb r l) (λ h. record { task = w.dated.task; other = d; place = sym e ∙ eqb-true r l h })
    (λ h. eq-eqb r l (e ∙ h.place))

-- ---- the whole row

pub row_dated : {tasks : Tasks} {jobs : List Job} {clock first n : ℕ} (bytes : List ℕ) → Datable tasks jobs clock → is_task (table_of tasks.table) first ≡ true
    → AllWait tasks jobs clock first bytes n → RowDated tasks.table jobs first bytes n
row_dated bytes w t all zero h = datable_dated w t
row_dated bytes w t all (suc i) h = datable_dated w (all i h).task

pub row_low : {table : Table} {jobs : List Job} {n : ℕ} (first : ℕ) (bytes : List ℕ) → length table.tasks ≡ most → RowDated table jobs first bytes n
    → (i : ℕ) → i ≤ n → in_row first bytes i ≤ most
row_low first bytes long d i h = omega (arith, dated_task (d i h) long)

-- ---- marks

-- one more of those that wait
pub marked_next : (before seen : List Bool) (bytes : List ℕ) (i : ℕ) → seen ≡ marked before (row_tasks bytes i)
    → set seen (byte_task bytes i) true ≡ marked before (row_tasks bytes (i + 1))
unfolding marked row_tasks
marked_next before seen bytes i e = rw (add-one i, e) (sym (marked_append before (row_tasks bytes i) (byte_task bytes i ∷ [])))
