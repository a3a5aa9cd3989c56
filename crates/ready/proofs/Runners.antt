-- A job enters and meets the running one, or leaves. Assumes nothing.
use mathlib.Core.Path.{◌≡◌, refl, sym, ap, ◌∙◌}
use mathlib.Core.List.{List}
use Prim.Native.Nat.{ℕ, zero, suc, ◌≤◌}
use native.Mathlib.Omega.{arith}
use lib.ListN.{length}
use Rattle.laws.specs.Words.{behind, put}
use Rattle.laws.proofs.Bools.{both_le}
use Rattle.rules.specs.Table.{most}
use Rattle.rules.specs.Calls.{front_of, lowest, leave_by, leave}
use Rattle.rules.proofs.Tables.{passed_to_3}
use Rattle.table.specs.declared.Level.{Level}
use Rattle.table.specs.declared.TaskNo.{TaskNo}
use Rattle.table.specs.Stored.{table_of}
use Rattle.lists.specs.declared.Lists.{Lists}
use Rattle.lists.specs.declared.Popped.{Popped}
use Rattle.lists.specs.Links.{Stores}
use Rattle.lists.specs.Answers.{who_in, occupied_at, PopsFrom, MayEnter}
use Rattle.jobs.specs.declared.Job.{Job}
use Rattle.jobs.specs.declared.Tasks.{Tasks}
use Rattle.jobs.specs.Kept.{levels_at}
use Rattle.ready.specs.declared.Ready.{Ready}
use Rattle.ready.specs.Keep.{Keeping, Becomes, MayWait, Enterable}
use Rattle.jobs.proofs.Keeping.{levels_low}
use Rattle.lists.proofs.LowestLevel.{found_at, nothing_from, level_from}
use Rattle.lists.proofs.Together.{lowest_levels}
use Rattle.std.specs.Prelude.{None, Option, Some}

-- ---- entering

module _ {tasks : Tasks} {jobs : List Job} {time : ℕ} where
  -- who may wait may enter the list of its level
  pub waits_enters : {ls : ℕ → List ℕ} {k : ℕ} {s : Lists} (l : ℕ) → Stores s ls → MayWait tasks jobs time ls k → l ≡ levels_at tasks jobs time k → MayEnter s l k
  waits_enters {ls} {k} l st may e =
      let task : (1 ≤ k) × (k ≤ length (table_of tasks.table)) = both_le may.known.dated.task in
      record {
        lists = ls;
        stores = st;
        level = record { low = omega (arith, e, levels_low tasks jobs time k); high = omega (arith, e, may.level) };
        task = record { low = task.0; high = omega (arith, task.1, (passed_to_3 (table_of tasks.table) may.known.dated.tested).1) };
        absent = may.absent;
      }

  -- the running job may wait
  pub runner_waits : {r : Ready} {k : ℕ} (may : Enterable r tasks jobs time k) (other : TaskNo) → r.running ≡ Some other → MayWait tasks jobs time may.ready.lists other.0
  runner_waits may other e = may.runner other.0 (sym may.keeps.running ∙ ap who_in e)

-- ---- leaving

leave_at : (lists : ℕ → List ℕ) (l : ℕ) → 1 ≤ l → leave_by lists l ≡ record { running = front_of (lists l); lists = put lists l (behind (lists l)) }
leave_at lists zero h = let z : ⊥ = omega arith in absurd z
leave_at lists (suc l) h = refl

module _ {r : Ready} {found : Option Level} (said : (ls : ℕ → List ℕ) → Stores r.lists ls → found ≡ occupied_at (lowest ls most 1)) where
  pub leaves_nobody : found ≡ None → Becomes r leave (record { running = None; lists = r.lists })
  leaves_nobody e x keeps =
      let none : lowest x.lists most 1 ≡ 0 = (nothing_from x.lists 1 (omega arith) (omega arith) (sym e ∙ said x.lists keeps.stores)).0 in
      rw (lowest_levels keeps.stores.waits, none) (record { running = refl; stores = keeps.stores })

  module _ (level : Level) (e : found ≡ Some level) where
    pub leaves_level : Keeping r → (1 ≤ level.0) × (level.0 ≤ most)
    leaves_level keeping =
        let at = level_from keeping.ready.lists 1 (omega arith) level (sym e ∙ said keeping.ready.lists keeping.keeps.stores) in
        (at.0, at.1)

    pub leaves_front : (popped : Popped) → ((ls : ℕ → List ℕ) → Stores r.lists ls → PopsFrom ls level.0 popped)
        → Becomes r leave (record { running = popped.front; lists = popped.lists })
    leaves_front popped pops x keeps =
        let at = found_at level _ (sym e ∙ said x.lists keeps.stores) in
        let low : lowest x.lists most 1 ≡ level.0 = at.0 in
        let pop = pops x.lists keeps.stores in
        rw (lowest_levels keeps.stores.waits, low, leave_at x.lists level.0 (omega (arith, at))) (record { running = pop.front; stores = pop.stores })
