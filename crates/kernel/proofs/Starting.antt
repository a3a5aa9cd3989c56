-- What start gives back: the rules' start where the table is sound, and zeros where it is not. Assumes nothing.
use mathlib.Core.Path.{◌≡◌, refl, sym, ap, ◌∙◌, subst, fun_ext}
use mathlib.Core.Bool.{Bool, true, false, and-false}
use mathlib.Core.List.{List, []}
use Prim.Native.Nat.{ℕ, zero, suc, ◌-◌}
use native.Mathlib.Omega.{arith}
use lib.ListN.{length, take, replicate}
use Rattle.laws.specs.Words.{pick}
use Rattle.rules.specs.Numbers.{Refusal, Passed, Failed, first_of}
use Rattle.rules.specs.Table.{Task, most, is_task, tests_to3, verdict_of}
use Rattle.rules.specs.Levels.{rising_of}
use Rattle.rules.specs.State as Rules
use Rattle.rules.specs.Calls.{start_of}
use Rattle.rules.proofs.Verdicts.{verdict_cases}
use Rattle.rules.proofs.Tables.{passed_to_3}
use Rattle.rules.proofs.Wholes.{whole_start}
use Rattle.table.specs.declared.Table.{Table}
use Rattle.table.specs.declared.TableRefusal.{TableRefusal}
use Rattle.std.specs.Prelude.{Err}
use Rattle.table.specs.Stored.{table_of, table_refusal_in}
use Rattle.table.proofs.Tests.{table_length, verdict_one}
use Rattle.levels.proofs.Copies.{laid_first}
use Rattle.lists.specs.Links.{Sized}
use Rattle.lists.specs.Answers.{who_in}
use Rattle.lists.specs.Held.{list_at}
use Rattle.lists.proofs.Walks.{list_held}
use Rattle.lists.proofs.Determined.{arrays_one}
use Rattle.jobs.specs.declared.Job.{Job}
use Rattle.jobs.specs.declared.Tasks.{Tasks}
use Rattle.jobs.specs.Kept.{no_job, job_at, released_in, active_in}
use Rattle.whole.proofs.Wholeness.{state_whole}
use Rattle.kernel.specs.declared.Block.{Block}
use Rattle.kernel.specs.declared.start.Started.{Started}
use Rattle.kernel.specs.Block.{view_of, Whole}
use Rattle.kernel.specs.Start.{Fresh, laid_down, no_tasks, StartsBy, Starts}

-- ---- start meets its contract

module _ (table : Table) (reading : ℕ) where
  pub starts_refused : (r : TableRefusal) {b : Block} {tasks : Tasks} → Failed (table_refusal_in r) ≡ verdict_of (table_of table)
      → tasks ≡ no_tasks → Fresh tasks 0 b → Starts table reading (record { verdict = Err r; block = b })
  starts_refused r {b} e none f = record { verdict = e; block = rw (sym e) (subst (λ (t : Tasks). Fresh t 0 b) none f) }

-- ---- the view of a block where nothing has happened yet

has_no_job : (n k : ℕ) → job_at (replicate n no_job) k ≡ no_job
has_no_job zero k = refl
has_no_job (suc n) zero = refl
has_no_job (suc n) (suc k) = has_no_job n k

pick_either : {X : Type 0} (b : Bool) (x : X) → pick b x x ≡ x
pick_either true x = refl
pick_either false x = refl

module _ {tasks : Tasks} {reading : ℕ} {b : Block} (f : Fresh tasks reading b) where
  job : (k : ℕ) → job_at b.jobs k ≡ no_job
  job k = ap (λ (jobs : List Job). job_at jobs k) f.jobs ∙ has_no_job (suc most) k

  pub fresh_view : view_of b ≡ start_of (table_of tasks.table) reading
  fresh_view =
      let released : released_in b.tasks.table b.jobs ≡ (λ k. Rules.Never) = fun_ext (λ k. rw (job k) (pick_either (is_task (table_of b.tasks.table) k) Rules.Never)) in
      let active : active_in b.tasks.table b.jobs ≡ (λ k. false) = fun_ext (λ k. rw (job k) (and-false (is_task (table_of b.tasks.table) k))) in
      let lists : list_at b.ready.lists ≡ (λ l. []) = fun_ext (list_held f.lists) in
      λ i. record {
        table = table_of (f.held i).table;
        clock = (f.now i).clock;
        reading = (f.now i).reading;
        released = released i;
        active = active i;
        ready = record { running = who_in (f.running i); lists = lists i };
      }

-- ---- a sound table: whole

pub fresh_whole : {table : Table} {reading : ℕ} {b : Block} → Fresh (laid_down table) reading b → verdict_of (table_of table) ≡ Passed → length table.tasks ≡ most → Whole b
fresh_whole {table} {reading} {b} f e long =
    state_whole (subst Rules.Whole (sym (fresh_view f)) (whole_start (table_of table) reading e))
    (subst (λ (t : Tasks). take t.table.count t.rising ≡ rising_of (table_of t.table)) (sym f.held)
    (laid_first (table_of table) table.count (most - table.count) (table_length table long)))
    (record { lists = λ l. []; stores = f.lists })

pub start_whole : (table : Table) (reading : ℕ) (r : Started) → length table.tasks ≡ most → Starts table reading r → verdict_of (table_of table) ≡ Passed
    → Whole r.block × (view_of r.block ≡ start_of (table_of table) reading)
start_whole table reading r long st e =
    let f : Fresh (laid_down table) reading r.block = subst (StartsBy table reading r.block) e st.block in
    (fresh_whole f e long, fresh_view f)

-- ---- a table that is refused: zeros

no_table : table_of no_tasks.table ≡ []
unfolding table_of
no_table = refl

-- "it has no tasks, so it is not whole and any call on it gives 15"
pub refused_start_not_whole : {table : Table} {reading : ℕ} {r : Started} → Starts table reading r → (q : Refusal) → verdict_of (table_of table) ≡ Failed q → Whole r.block → ⊥
refused_start_not_whole {table} {reading} {r} st q e w =
    let f : Fresh no_tasks 0 r.block = subst (StartsBy table reading r.block) e st.block in
    omega (arith, passed_to_3 [] (subst (λ (ts : List Task). first_of (tests_to3 ts) ≡ Passed) (ap (λ (t : Tasks). table_of t.table) f.held ∙ no_table) w.tasks_whole.table))

-- ---- one result

pub fresh_one : {tasks : Tasks} {reading : ℕ} {a b : Block} → Sized a.ready.lists → Sized b.ready.lists → Fresh tasks reading a → Fresh tasks reading b → a ≡ b
fresh_one {tasks} {reading} {a} {b} sa sb f g =
    let held : a.tasks ≡ b.tasks = f.held ∙ sym g.held in
    let jobs : a.jobs ≡ b.jobs = f.jobs ∙ sym g.jobs in
    let running : a.ready.running ≡ b.ready.running = f.running ∙ sym g.running in
    let lists : a.ready.lists ≡ b.ready.lists = arrays_one sa sb f.lists g.lists in
    let now : a.now ≡ b.now = f.now ∙ sym g.now in
    λ i. record { tasks = held i; jobs = jobs i; ready = record { running = running i; lists = lists i }; now = now i }

-- two results that `Starts` allows are equal
pub start_one : (table : Table) (reading : ℕ) (a b : Started) → Sized a.block.ready.lists → Sized b.block.ready.lists
    → Starts table reading a → Starts table reading b → a ≡ b
start_one table reading a b sa sb p q =
    let verdict : a.verdict ≡ b.verdict = verdict_one a.verdict b.verdict (p.verdict ∙ sym q.verdict) in
    let block : a.block ≡ b.block =
    verdict_cases (λ v. StartsBy table reading a.block v → StartsBy table reading b.block v → a.block ≡ b.block) (verdict_of (table_of table))
    (λ e. fresh_one sa sb) (λ r e. fresh_one sa sb) p.block q.block in
    λ i. record { verdict = verdict i; block = block i }
