-- What a commit stores is what the rules' accepted call leaves. Assumes nothing.
use mathlib.Core.Path.{◌≡◌, refl, sym, ap, ap₂, ◌∙◌, subst}
use mathlib.Core.Bool.{Bool, true, false}
use mathlib.Core.List.{List, ◌∷◌, ◌++◌}
use Prim.Native.Nat.{ℕ, suc, ◌-◌, ◌≤◌, ◌<◌}
use native.Mathlib.Omega.{arith}
use borrow.Author.Tests.{eq-eqb}
use lib.Dec.{eqb}
use lib.IntN.{ℤ}
use lib.ListN.{length, take, set}
use mir.Syntax.{w64}
use mir.Val.{to_z, of_z}
use Rattle.laws.specs.Words.{pick, digit, count, put}
use Rattle.laws.proofs.Bools.{digit_le, true_false, both_le}
use Rattle.laws.proofs.Counts.{count_cons, in_count}
use Rattle.laws.proofs.Families.{put_all, put_same}
use Rattle.rules.specs.Numbers.{Verdict, Failed, first_of}
use Rattle.rules.specs.Table.{most, is_task}
use Rattle.rules.specs.Levels.{rising_of, remaining_of}
use Rattle.rules.specs.Clock.{last_tick}
use Rattle.rules.specs.State as Rules
use Rattle.rules.specs.Calls.{Call, Release, Done, Clock, Accepted, Ticks, None, reading_of, time_at, tests_of, enter, leave, moved, then_do, moves_of, margin_of, Step, accept, step_by, step_of}
use Rattle.rules.proofs.Tables.{passed_to_3}
use Rattle.rules.proofs.Levels.{level_high}
use Rattle.rules.proofs.Promotion.{promotion_in_place, promotion_moves}
use Rattle.rules.proofs.Queues.{moved_queue}
use Rattle.rules.proofs.Ranges.{list_range}
use Rattle.rules.proofs.Refusals.{accepted_refused}
use Rattle.rules.proofs.Steps.{call_timely, MayRelease, release_allowed, end_allowed}
use Rattle.rules.proofs.Wholes.{queue_whole, whole_queue, whole_step}
use Rattle.table.specs.Stored.{table_of}
use Rattle.levels.proofs.Copies.{copy_counted}
use Rattle.levels.proofs.Casts.{remaining_held}
use Rattle.clock.specs.Advance.{Advanced}
use Rattle.lists.specs.Links.{Absent, Stores}
use Rattle.lists.specs.Answers.{who_in, Holds}
use Rattle.lists.specs.Held.{list_at}
use Rattle.lists.proofs.Together.{in_all}
use Rattle.lists.proofs.Walks.{lists_held}
use Rattle.jobs.specs.declared.Job.{Job}
use Rattle.jobs.specs.declared.Tasks.{Tasks}
use Rattle.jobs.specs.Kept.{last_in, job_at, released_in, levels_at, Dated, Levelled}
use Rattle.jobs.proofs.Keeping.{dated_small, stored_released, stored_active, stored_free}
use Rattle.ready.specs.declared.Ready.{Ready}
use Rattle.ready.specs.declared.promotion.Promoted.{Promoted}
use Rattle.ready.specs.Keep.{Keeps, Relevels, MayWait, Enterable}
use Rattle.ready.specs.Promote.{Promotable}
use Rattle.ready.proofs.Results.{kept_is}
use Rattle.whole.proofs.Wholeness.{whole_state, state_whole}
use Rattle.kernel.specs.declared.Block.{Block}
use Rattle.kernel.specs.declared.Called.{Called}
use Rattle.kernel.specs.Block.{view_of, Whole, SameTasks}
use Rattle.kernel.specs.declared.Refusal.{Refusal}
use Rattle.kernel.specs.Answers.{refusal_in, answer_in}
use Rattle.kernel.specs.Tests.{checked_in, checked_of}
use Rattle.kernel.specs.Calls.{Does, refused_as, accepted_as, Goes}
use Rattle.clock.proofs.Answers.{verdict_kept}
use Rattle.std.specs.Prelude.{Err, None, Result, Some}

-- ---- what the tests found

module _ (b : Block) (c : Call) (w : Whole b) (r : Result ℕ Refusal) (found : checked_in r ≡ checked_of (view_of b) c) where
  verdict : first_of (tests_of (view_of b) c) ≡ (checked_in r).verdict
  verdict = sym (ap (λ (x : Advanced). x.verdict) found ∙ verdict_kept (time_at (view_of b) (reading_of c)) (first_of (tests_of (view_of b) c)))

  -- it is refused
  pub refuses : {q : Refusal} → r ≡ Err q → {x : Called} → x ≡ refused_as q b → Does b c x
  unfolding step_of
  refuses {q} e is =
      subst (Does b c) (sym is)
      (let failed : first_of (tests_of (view_of b) c) ≡ Failed (refusal_in q) = verdict ∙ ap (λ (x : Result ℕ Refusal). (checked_in x).verdict) e in
      record {
        answer = sym (ap (λ (v : Verdict). (step_by (view_of b) c v).answer) failed);
        view = sym (ap (λ (v : Verdict). (step_by (view_of b) c v).state) failed);
        same = record { tasks = refl; free = λ k f. refl };
        whole = w;
        refused = λ x f. refl;
      })

-- ---- an accepted call

module _ {b : Block} {c : Call} {time : ℕ} (g : Goes b c time) where
  abbrev s : Rules.State
  s = view_of b

  abbrev now : Rules.State
  now = moved s time (reading_of c)

  state : Rules.Whole s
  state = whole_state g.whole b.now.reading

  later : s.clock ≤ time
  later = omega (arith, g.at, (call_timely s c g.passed).later)

  high : time ≤ last_tick
  high = omega (arith, g.at, (call_timely s c g.passed).high)

  -- the times that there are: of the call, and of the block before it
  pub ticks : (time ≤ last_tick) × (b.now.clock ≤ last_tick)
  ticks = (high, g.whole.ticks)

  now_whole : Rules.Whole now
  now_whole = queue_whole now (Rules.everyone s.ready) (moved_queue s (Rules.everyone s.ready) (whole_queue s state) time (reading_of c) later high)

  step_is : step_of s c ≡ accept s c time
  unfolding step_of
  step_is = ap (step_by s c) g.passed ∙ ap (accept s c) (sym g.at)

  -- the block that is left, and the answer, are the step's
  pub committed : (r : Called) → SameTasks b r.block → Holds r.block.ready.lists → view_of r.block ≡ then_do now c
      → answer_in r.answer ≡ Accepted (view_of r.block).ready.running (moves_of s time) (margin_of s time c) → Does b c r
  committed r same links view answer =
      record {
        answer = answer ∙ ap (λ (x : Rules.State). Accepted x.ready.running (moves_of s time) (margin_of s time c)) view ∙ sym (ap (λ (x : Step). x.answer) step_is);
        view = after;
        same = same;
        refused = λ q e. accepted_refused answer e;
        whole =
            state_whole (subst Rules.Whole (sym after) (whole_step s c state))
            (ap (λ (t : Tasks). take t.table.count t.rising) same.tasks ∙ g.whole.tasks_whole.copy ∙ sym (ap (λ (t : Tasks). rising_of (table_of t.table)) same.tasks)) links;
      }
    where
      after : view_of r.block ≡ (step_of s c).state
      after = view ∙ sym (ap (λ (x : Step). x.state) step_is)

  -- ---- promotion

  module _ (long : length b.tasks.table.tasks ≡ most) where
    -- a task's job has a level at any time of the clock's range, whatever jobs are kept, if its release is not later than the call
    levelled : (jobs : List Job) (k at : ℕ) → at ≤ last_tick → is_task (table_of b.tasks.table) k ≡ true → Rules.time_of (released_in b.tasks.table jobs k) ≤ time
        → Levelled b.tasks jobs at k
    levelled jobs k at h t p =
        record {
          dated = record { tested = g.whole.tasks_whole.table; task = t; past = omega (arith, high) };
          copy = copy_counted b.tasks.table b.tasks.rising long g.whole.tasks_whole.table g.whole.tasks_whole.copy;
          high = h;
        }

    past : (k : ℕ) → Rules.time_of (s.released k) ≤ time
    past k = omega (arith, g.whole.jobs_whole.past k, later)

    pub promotable : (at : ℕ) → at ≤ last_tick → Promotable b.tasks b.jobs at b.ready.lists
    promotable at h =
        record {
          ls = list_at b.ready.lists;
          stores = lists_held g.whole.links.stores;
          known = λ l k m. levelled b.jobs k at h (g.whole.waiter l k m).task (past k);
          high =
              λ l k m. omega (arith, g.whole.place l k m, level_high s.table k (g.whole.waiter l k m).task (Rules.deadline_in s k) s.clock (omega (arith, g.whole.jobs_whole.past k)));
        }

  -- the lists are those of the new levels, and the moves are counted
  module _ (x : Promoted Ready) (done : Relevels (levels_at b.tasks b.jobs time) b.ready x) where
    few : length s.table ≤ suc (most - 1)
    few = omega (arith, passed_to_3 s.table g.whole.tasks_whole.table)

    held : Keeps b.ready s.ready
    held = record { running = refl; stores = lists_held g.whole.links.stores }

    pub releveled_moves : x.moves ≡ moves_of s time
    releveled_moves = done.moves s.ready held ∙ promotion_moves s state time later (Rules.level_in s time) (λ j k m. refl) (most - 1) few

    pub releveled_keeps : Keeps x.now now.ready
    releveled_keeps =
        let kept = done.keeps s.ready held in
        record {
          running = kept.running;
          stores =
              subst (Stores x.now.lists) (promotion_in_place s state time later (Rules.level_in s time) (λ j k m. refl) (most - 1) few) kept.stores;
        }

-- ---- clock: "nothing more"

pub moved_does : {b : Block} {n time : ℕ} → Goes b (Clock n) time → (after : Ready) → Keeps after (moved (view_of b) time n).ready → (m : ℕ) → m ≡ moves_of (view_of b) time
    → {r : Called} → r ≡ accepted_as b after time n m None → Does b (Clock n) r
moved_does {b} {n} {time} g after k m e is =
    subst (Does b (Clock n)) (sym is)
    (committed g _ (record { tasks = refl; free = λ j f. refl }) (record { lists = _; stores = k.stores })
    (ap (λ (x : Rules.Ready). record { table = (view_of b).table; clock = time; reading = n; released = (view_of b).released; active = (view_of b).active; ready = x }) (kept_is k))
    (ap (λ (x : ℕ). Accepted (who_in after.running) x None) e))

-- ---- release and done: the job of task k is stored anew

-- a task has a place
pub place : {b : Block} {c : Call} {time : ℕ} → Goes b c time → length b.jobs ≡ suc most → (k : ℕ) → is_task (table_of b.tasks.table) k ≡ true → k < length b.jobs
place {b} g long k task =
    let few = passed_to_3 (table_of b.tasks.table) g.whole.tasks_whole.table in
    let in_table : (1 ≤ k) × (k ≤ length (table_of b.tasks.table)) = both_le task in
    omega (arith, long, in_table, few)

module _ {b : Block} {c : Call} {time : ℕ} (g : Goes b c time) (long : length b.jobs ≡ suc most) (k : ℕ) (task : is_task (table_of b.tasks.table) k ≡ true) (v : Job) where
  abbrev stored : List Job
  stored = set b.jobs k v

  same_stored : (ready : Ready) (clock reading : ℕ) → SameTasks b (record { tasks = b.tasks; jobs = stored; ready = ready; now = record { clock = clock; reading = reading } })
  same_stored ready clock reading = record { tasks = refl; free = stored_free b.tasks.table b.jobs k v task (place g long k task) }

  view_stored : (ready : Ready) (x : Rules.Ready) (n : ℕ) → Keeps ready x
      → view_of (record { tasks = b.tasks; jobs = stored; ready = ready; now = record { clock = time; reading = n } })
      ≡ record {
        table = (view_of b).table;
        clock = time;
        reading = n;
        released = put (view_of b).released k (last_in v.last);
        active = put (view_of b).active k v.active;
        ready = x;
      }
  view_stored ready x n h = λ i. record {
    table = (view_of b).table;
    clock = time;
    reading = n;
    released = stored_released b.tasks.table b.jobs k v task (place g long k task) i;
    active = stored_active b.tasks.table b.jobs k v task (place g long k task) i;
    ready = kept_is h i;
  }

-- ---- done: "the running job ends"

module _ {b : Block} {n k time : ℕ} (g : Goes b (Done n k) time) where
  runs : (view_of b).ready.running ≡ Rules.One k
  runs = end_allowed (view_of b) n k g.passed

  pub running_task : is_task (table_of b.tasks.table) k ≡ true
  running_task = (g.whole.runner k runs).task

  pub running_dated : Dated b.tasks.table b.jobs k × (time ≤ last_tick)
  running_dated = (record { tested = g.whole.tasks_whole.table; task = running_task; past = omega (arith, g.whole.jobs_whole.past k, g.whole.ticks) }, high g)

  -- the margin as it lies in 64 bits
  pub margin_held : (z : ℤ) → z ≡ remaining_of (Rules.deadline_in (view_of b) k) time → to_z w64 (of_z w64 z) ≡ remaining_of (Rules.deadline_in (view_of b) k) time
  margin_held z e = remaining_held z (Rules.deadline_in (view_of b) k) time (omega (arith, dated_small running_dated.0)) (omega (arith, running_dated.1)) e

  module _ (long : length b.jobs ≡ suc most) where
    abbrev over : Job
    over = record { active = false; last = (job_at b.jobs k).last }

    same_release : put (view_of b).released k (last_in (job_at b.jobs k).last) ≡ (view_of b).released
    same_release = put_same (view_of b).released k (last_in (job_at b.jobs k).last) (ap (λ (t : Bool). pick t (last_in (job_at b.jobs k).last) Rules.Never) running_task)

    pub ended_does : (z : ℤ) → z ≡ remaining_of (Rules.deadline_in (view_of b) k) time → (m : ℕ) → m ≡ moves_of (view_of b) time
        → (after : Ready) → Keeps after (leave (moved (view_of b) time n).ready)
        → {r : Called} → r ≡ accepted_as (record { tasks = b.tasks; jobs = set b.jobs k over; ready = b.ready; now = b.now }) after time n m (Some z)
        → Does b (Done n k) r
    ended_does z e m f after h is =
        subst (Does b (Done n k)) (sym is)
        (committed g _ (same_stored g long k running_task over after time n) (record { lists = _; stores = h.stores })
        (view_stored g long k running_task over after (leave (moved (view_of b) time n).ready) n h
        ∙ ap (λ (r : ℕ → Rules.Last). record { table = (view_of b).table; clock = time; reading = n; released = r; active = put (view_of b).active k false; ready = leave (moved (view_of b) time n).ready }) same_release)
        (ap₂ (λ (x : ℕ) (y : ℤ). Accepted (who_in after.running) x (Ticks y)) f e))

-- ---- release: "the task's job becomes active"

-- the running job waits nowhere
running_absent : (s : Rules.State) → Rules.Whole s → (j : ℕ) → s.ready.running ≡ Rules.One j → Absent j s.ready.lists
running_absent s w j e l m =
    let twice : count (eqb j) (j ∷ Rules.waiting s) ≡ digit (s.active j) = ap (λ (r : Rules.Running). count (eqb j) (Rules.runs r ++ Rules.waiting s)) (sym e) ∙ w.once j in
    omega (arith, twice, count_cons (eqb j) j (Rules.waiting s), ap digit (eq-eqb j j refl), in_count j (Rules.waiting s) (in_all s.ready.lists j l (let r = list_range s w l j m in record { low = r.0; high = omega (arith, r.1, passed_to_3 s.table w.table) }) m), digit_le (s.active j))

module _ {b : Block} {n k time : ℕ} (g : Goes b (Release n k) time) where
  may : MayRelease (view_of b) k
  may = release_allowed (view_of b) n k g.passed

  abbrev begins : Job
  begins = record { active = true; last = Some time }

  pub released_task : is_task (table_of b.tasks.table) k ≡ true
  released_task = may.task

  module _ (long : length b.jobs ≡ suc most) (wide : length b.tasks.table.tasks ≡ most) where
    abbrev jobs : List Job
    jobs = set b.jobs k begins

    abbrev levels : ℕ → ℕ
    levels = levels_at b.tasks jobs time

    released_now : released_in b.tasks.table jobs ≡ put (view_of b).released k (Rules.At time)
    released_now = stored_released b.tasks.table b.jobs k begins released_task (place g long k released_task)

    -- no release is later than this one
    none_later : (j : ℕ) → Rules.time_of (released_in b.tasks.table jobs j) ≤ time
    none_later =
        subst (λ (f : ℕ → Rules.Last). (j : ℕ) → Rules.time_of (f j) ≤ time) (sym released_now)
        (put_all (view_of b).released k (Rules.At time) (λ j x. Rules.time_of x ≤ time) (omega arith) (λ j d. past g wide j))

    may_wait : (j : ℕ) → is_task (table_of b.tasks.table) j ≡ true → Absent j (moved (view_of b) time n).ready.lists
        → MayWait b.tasks jobs time (moved (view_of b) time n).ready.lists j
    may_wait j t a =
        record {
          known = levelled g wide jobs j time (high g) t (none_later j);
          level =
              omega (
                arith,
                level_high (table_of b.tasks.table) j t (Rules.deadline_of (table_of b.tasks.table) (released_in b.tasks.table jobs) j) time (omega (arith, none_later j)),
                passed_to_3 (table_of b.tasks.table) g.whole.tasks_whole.table,
              );
          absent = a;
        }

    pub enterable : {r : Ready} → Keeps r (moved (view_of b) time n).ready → Enterable r b.tasks jobs time k
    enterable h =
        record {
          ready = (moved (view_of b) time n).ready;
          keeps = h;
          task = may_wait k released_task (λ l m. true_false ((view_of b).active k) ((now_whole g).waiter l k m).active may.idle);
          runner = λ j e. may_wait j ((now_whole g).runner j e).task (running_absent (moved (view_of b) time n) (now_whole g) j e);
        }

    pub begun_does : (m : ℕ) → m ≡ moves_of (view_of b) time → (after : Ready) → Keeps after (enter levels k (moved (view_of b) time n).ready)
        → {r : Called} → r ≡ accepted_as (record { tasks = b.tasks; jobs = jobs; ready = b.ready; now = b.now }) after time n m None → Does b (Release n k) r
    begun_does m f after h is =
        subst (Does b (Release n k)) (sym is)
        (committed g _ (same_stored g long k released_task begins after time n) (record { lists = _; stores = h.stores })
        (view_stored g long k released_task begins after (enter levels k (moved (view_of b) time n).ready) n h
        ∙ ap (λ (x : ℕ → Rules.Last). record {
          table = (view_of b).table;
          clock = time;
          reading = n;
          released = put (view_of b).released k (Rules.At time);
          active = put (view_of b).active k true;
          ready = enter (Rules.levels_of (view_of b).table x time) k (moved (view_of b) time n).ready;
        }) released_now)
        (ap (λ (x : ℕ). Accepted (who_in after.running) x None) f))
