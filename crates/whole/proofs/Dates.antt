-- Release times: what `JobsWhole` says, task by task. Assumes nothing.
use mathlib.Core.Path.{◌≡◌, refl, sym, ◌∙◌}
use mathlib.Core.Bool.{Bool, true, false, ◌&&◌}
use mathlib.Core.List.{List}
use Prim.Native.Nat.{ℕ, ◌≤◌}
use native.Mathlib.Omega.{arith}
use borrow.Author.Tests.{leb-true, le-leb, not-true}
use lib.ListN.{length}
use Rattle.laws.specs.Words.{pick}
use Rattle.laws.proofs.Bools.{clash, true_false, both_le, le_both}
use Rattle.rules.specs.Table.{most, is_task}
use Rattle.rules.specs.State.{Last, Never, At, time_of}
use Rattle.table.specs.declared.Table.{Table}
use Rattle.table.specs.Stored.{table_of}
use Rattle.jobs.specs.declared.Job.{Job}
use Rattle.jobs.specs.Kept.{last_in, job_at}
use Rattle.jobs.proofs.Keeping.{task_asked}
use Rattle.queue.specs.Asked.{JobsWhole}
use Rattle.whole.specs.Parts.{dated_by}

-- ---- one job

-- where a place counts only if a test holds
dated_known : (b active : Bool) (last : Last) (clock : ℕ) → (b ≡ true → dated_by active last clock ≡ true) → (b && active) ≡ true
    → pick b last Never ≡ At (time_of (pick b last Never))
dated_known true active Never clock h t = true_false active t (not-true active (h refl))
dated_known true active (At time) clock h t = refl
dated_known false active last clock h t = true_false false t refl

dated_past : (b active : Bool) (last : Last) (clock : ℕ) → (b ≡ true → dated_by active last clock ≡ true) → time_of (pick b last Never) ≤ clock
dated_past true active Never clock h = omega arith
dated_past true active (At time) clock h = leb-true time clock (h refl)
dated_past false active last clock h = omega arith

known_dated : (active : Bool) (last : Last) (clock : ℕ) → (active ≡ true → last ≡ At (time_of last)) → time_of last ≤ clock → dated_by active last clock ≡ true
known_dated true Never clock h p = let e = h refl in clash cc
known_dated false Never clock h p = refl
known_dated active (At time) clock h p = le-leb time clock p

-- ---- all jobs

module _ {table : Table} {jobs : List Job} {clock : ℕ} (long : length table.tasks ≡ most) where
  pub dated_whole : ((k : ℕ) → 1 ≤ k → k ≤ table.count → dated_by (job_at jobs k).active (last_in (job_at jobs k).last) clock ≡ true) → JobsWhole table jobs clock
  dated_whole h =
      record {
        known = λ k. dated_known (is_task (table_of table) k) (job_at jobs k).active (last_in (job_at jobs k).last) clock (at k);
        past = λ k. dated_past (is_task (table_of table) k) (job_at jobs k).active (last_in (job_at jobs k).last) clock (at k);
      }
    where
      at : (k : ℕ) → is_task (table_of table) k ≡ true → dated_by (job_at jobs k).active (last_in (job_at jobs k).last) clock ≡ true
      at k t = let b : (1 ≤ k) × (k ≤ table.count) = both_le (task_asked table long k ∙ t) in h k b.0 b.1

  pub whole_dated : JobsWhole table jobs clock → (k : ℕ) → 1 ≤ k → k ≤ table.count → dated_by (job_at jobs k).active (last_in (job_at jobs k).last) clock ≡ true
  whole_dated w k low high =
      let t : is_task (table_of table) k ≡ true = sym (task_asked table long k) ∙ le_both (low, high) in
      known_dated (job_at jobs k).active (last_in (job_at jobs k).last) clock (rw t at (w.known k)) (rw t at (w.past k))
