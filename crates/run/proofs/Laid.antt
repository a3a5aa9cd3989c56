-- A table that is laid down: the places, first levels and plans of its tasks. Assumes nothing.
use mathlib.Core.Path.{◌≡◌, sym, ap, ◌∙◌}
use mathlib.Core.List.{List}
use Prim.Native.Nat.{ℕ, ◌-◌, ◌≤◌}
use native.Mathlib.Omega.{arith}
use lib.IntN.{pos}
use lib.ListN.{length, take}
use Rattle.laws.proofs.Bools.{both_le}
use Rattle.rules.specs.Table.{Task, most, task_at}
use Rattle.rules.specs.Levels.{level_of, first_level, plan_for, plan_of}
use Rattle.table.specs.Stored.{table_of}
use Rattle.table.proofs.Tests.{nth, table_length, table_at, few_passed}
use Rattle.levels.specs.declared.Plan.{Plan}
use Rattle.levels.specs.Copy.{CopyOf, Copied, held, points_in}
use Rattle.levels.proofs.Copies.{front_copy, front_size, front_copied}
use Rattle.levels.proofs.PlansHeld.{plan_fits, points_count, points_held}
use Rattle.levels.proofs.Casts.{first_by}
use Rattle.jobs.specs.declared.Tasks.{Tasks}
use Rattle.run.specs.Run.{LaidTask}

module _ (tasks : Tasks) (k : ℕ) (w : LaidTask tasks k) (long : length tasks.table.tasks ≡ most) where
  pub laid_place : (1 ≤ k) × (k ≤ tasks.table.count) × (tasks.table.count ≤ most)
  laid_place =
      let h : (1 ≤ k) × (k ≤ length (table_of tasks.table)) = both_le w.task in
      (h.0, omega (arith, h.1, table_length tasks.table long), few_passed tasks.table long w.laid.copy.tested)

  pub laid_entry : (task_at (table_of tasks.table) k).d ≡ (nth tasks.table (k - 1)).d
  laid_entry = let h = laid_place in ap (λ (x : Task). x.d) (table_at tasks.table long h.2 (k - 1) (omega arith))

  pub laid_first : level_of (table_of tasks.table) (pos (nth tasks.table (k - 1)).d) ≡ first_level (table_of tasks.table) k
  laid_first = first_by (table_of tasks.table) k (nth tasks.table (k - 1)).d laid_entry

  -- the copy in the front of its array, as it is lent
  abbrev pub laid_front : List ℕ
  laid_front = take tasks.table.count tasks.rising

  pub laid_copied : Copied (length laid_front) laid_front
  laid_copied = front_copied w.laid.copy (table_length tasks.table long)

  pub laid_copy : CopyOf (table_of tasks.table) laid_front
  laid_copy = front_copy w.laid.copy (table_length tasks.table long)

  pub laid_size : length (table_of tasks.table) ≡ length laid_front
  laid_size = front_size w.laid.copy (table_length tasks.table long)

  -- the plan that is read with the deadline of the task's stored entry
  module _ (p : Plan) (e : p ≡ held (plan_for (table_of tasks.table) (nth tasks.table (k - 1)).d)) where
    pub laid_points : points_in p ≡ plan_of (table_of tasks.table) k
    unfolding plan_of
    laid_points = ap points_in e ∙ points_held _ ∙ ap (plan_for (table_of tasks.table)) (sym laid_entry)

    pub laid_few : p.count ≤ most
    laid_few =
        let c : p.count ≡ length (plan_for (table_of tasks.table) (nth tasks.table (k - 1)).d) = ap (λ (q : Plan). q.count) e ∙ points_count _ in
        omega (arith, c, plan_fits (table_of tasks.table) (nth tasks.table (k - 1)).d w.laid.copy.tested)
