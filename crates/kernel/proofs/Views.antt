-- View and table determine a whole block. Assumes nothing.
use mathlib.Core.Path.{◌≡◌, refl, sym, ap, ap₂, ◌∙◌, subst}
use mathlib.Core.Bool.{Bool, true, false}
use mathlib.Core.List.{List}
use Prim.Native.Nat.{ℕ}
use lib.Seq.{ext_get_or}
use Rattle.rules.specs.Table.{is_task}
use Rattle.rules.specs.State as Rules
use Rattle.table.specs.Stored.{table_of}
use Rattle.lists.specs.Links.{Stores}
use Rattle.lists.proofs.Walks.{lists_held}
use Rattle.lists.proofs.Determined.{arrays_one}
use Rattle.lists.proofs.Results.{who_one}
use Rattle.jobs.specs.declared.Job.{Job}
use Rattle.jobs.specs.declared.Tasks.{Tasks}
use Rattle.jobs.specs.Kept.{last_in, job_at, no_job, released_in, active_in}
use Rattle.kernel.specs.declared.Block.{Block}
use Rattle.kernel.specs.Block.{view_of, Whole, Sizes, SameTasks}
use Rattle.std.specs.Prelude.{None, Option, Some}

-- ---- determined

last_one : (a b : Option ℕ) → last_in a ≡ last_in b → a ≡ b
last_one None None e = refl
last_one None (Some t) e = cc
last_one (Some t) None e = cc
last_one (Some t) (Some u) e = cc

module _ (table : _) (a b : List Job) (active : (k : ℕ) → active_in table b k ≡ active_in table a k) (released : (k : ℕ) → released_in table b k ≡ released_in table a k)
    (free : (k : ℕ) → is_task (table_of table) k ≡ false → job_at b k ≡ job_at a k) where
  job_one : (k : ℕ) → job_at b k ≡ job_at a k
  job_one k = go (is_task (table_of table) k) refl (active k) (released k)
    where
      go : (t : Bool) → is_task (table_of table) k ≡ t → active_in table b k ≡ active_in table a k → released_in table b k ≡ released_in table a k → job_at b k ≡ job_at a k
      go true e p q =
          let u : (job_at b k).active ≡ (job_at a k).active = rw e at p in
          let v : last_in (job_at b k).last ≡ last_in (job_at a k).last = rw e at q in
          ap₂ (λ (x : Bool) (y : Option ℕ). record { active = x; last = y }) u (last_one _ _ v)
      go false e p q = free k e

-- two whole blocks with the same table, the same free places and the same view are equal
pub blocks_one : {a b : Block} → Sizes a → Sizes b → Whole a → Whole b → SameTasks a b → view_of b ≡ view_of a → b ≡ a
blocks_one {a} {b} sa sb wa wb same v =
    λ i. record {
      tasks = same.tasks i;
      jobs = jobs i;
      ready = record { running = running i; lists = lists i };
      now = record { clock = (v i).clock; reading = (v i).reading };
    }
  where
    jobs : b.jobs ≡ a.jobs
    jobs =
        ext_get_or no_job b.jobs a.jobs (sb.jobs ∙ sym sa.jobs)
        (λ k h. job_one a.tasks.table a.jobs b.jobs (λ j. ap (λ (t : Tasks). active_in t.table b.jobs j) (sym same.tasks) ∙ ap (λ (s : Rules.State). s.active j) v)
        (λ j. ap (λ (t : Tasks). released_in t.table b.jobs j) (sym same.tasks) ∙ ap (λ (s : Rules.State). s.released j) v) same.free k)

    running : b.ready.running ≡ a.ready.running
    running = who_one _ _ (ap (λ (s : Rules.State). s.ready.running) v)

    lists : b.ready.lists ≡ a.ready.lists
    lists =
        arrays_one sb.lists sa.lists (lists_held wb.links.stores)
        (subst (Stores a.ready.lists) (sym (ap (λ (s : Rules.State). s.ready.lists) v)) (lists_held wa.links.stores))
