-- Who runs and who waits: what the test asks of a listing is what a whole block has. Assumes nothing.
use mathlib.Core.Path.{◌≡◌, refl, sym, ap, ap₂, ◌∙◌, subst}
use mathlib.Core.Bool.{true}
use mathlib.Core.Logic.{inl, inr, ⊎_elim}
use mathlib.Core.List.{List, [], ◌∷◌, ◌++◌}
use Prim.Native.Nat.{ℕ, zero, suc, ◌≤◌, ◌<◌}
use native.Mathlib.Omega.{arith}
use borrow.Author.Tests.{eq-eqb}
use lib.Dec.{eqb}
use lib.ListN.{length, get_or}
use Rattle.laws.specs.Words.{digit, count, In, Sorted}
use Rattle.laws.proofs.Bools.{digit_le, digit_true, clash, true_false, same_test, both_true, both_le, le_both}
use Rattle.laws.proofs.Counts.{count_cons, in_count, count_in}
use Rattle.laws.proofs.Orders.{chain_sorted, sorted_chain}
use Rattle.rules.specs.Table.{most, is_task}
use Rattle.rules.specs.State.{Running, Nobody, One, listing, runs, everyone, MayLead, ActiveTask}
use Rattle.rules.proofs.Ranges.{lead_through}
use Rattle.rules.proofs.Wholes.{whole_queue}
use Rattle.table.specs.Stored.{table_of}
use Rattle.table.proofs.Tests.{few_passed}
use Rattle.lists.specs.Links.{Once, Waits}
use Rattle.lists.specs.Answers.{who_in}
use Rattle.lists.specs.Held.{list_at}
use Rattle.lists.specs.Marks.{none, seen_at, marked}
use Rattle.lists.proofs.Walks.{lists_held}
use Rattle.lists.proofs.Apart.{once_count}
use Rattle.lists.proofs.Together.{all_in, waits_listed, listing_once, lists_order}
use Rattle.lists.proofs.Marks.{seen_none, marked_only, marked_in}
use Rattle.jobs.specs.declared.Job.{Job}
use Rattle.jobs.specs.declared.Tasks.{Tasks}
use Rattle.jobs.specs.Kept.{job_at, released_in, active_in}
use Rattle.jobs.proofs.Keeping.{task_asked}
use Rattle.ready.specs.declared.Ready.{Ready}
use Rattle.ready.specs.Keep.{ready_in}
use Rattle.queue.specs.Row.{byte_level, byte_task, row_tasks, in_row, WaitsRight, ActiveAs, RunsWhole}
use Rattle.whole.specs.Whole.{view_in, Whole}
use Rattle.whole.specs.Parts.{Tested}
use Rattle.whole.proofs.Wholeness.{whole_state, state_whole}
use Rattle.whole.proofs.Reading.{tasks_length, tasks_at, Read}

-- ---- jobs in order

abbrev Leads : Tasks → List Job → ℕ → ℕ → Type 0
Leads tasks jobs = MayLead (table_of tasks.table) (released_in tasks.table jobs)

waits_held : {tasks : Tasks} {jobs : List Job} {ready : Ready} {clock : ℕ} → Tested tasks jobs ready clock → Waits (list_at ready.lists)
waits_held t = (lists_held t.links.stores).waits

-- ---- marks against the active jobs

module _ {tasks : Tasks} {jobs : List Job} {ready : Ready} {clock : ℕ} (t : Tested tasks jobs ready clock) (long : length tasks.table.tasks ≡ most) where
  task_counted : (k : ℕ) → is_task (table_of tasks.table) k ≡ true → (1 ≤ k) × (k ≤ tasks.table.count) × (k ≤ most)
  task_counted k e =
      let h : (1 ≤ k) × (k ≤ tasks.table.count) = both_le (task_asked tasks.table long k ∙ e) in
      (h.0, h.1, omega (arith, few_passed tasks.table long t.datable.tasks_whole.table))

  counted_task : (k : ℕ) → 1 ≤ k → k ≤ tasks.table.count → is_task (table_of tasks.table) k ≡ true
  counted_task k low high = sym (task_asked tasks.table long k) ∙ le_both (low, high)

  module _ (q : List ℕ) (all : (k : ℕ) → In k q → is_task (table_of tasks.table) k ≡ true) where
    in_seen : (k : ℕ) → In k q → seen_at (marked none q) k ≡ true
    in_seen k m = marked_in k none q refl (λ x i. (task_counted x (all x i)).2) (inr m)

    seen_in : (k : ℕ) → seen_at (marked none q) k ≡ true → In k q
    seen_in k u = ⊎_elim (λ v. true_false (seen_at none k) v (seen_none (suc most) k)) (λ m. m) (marked_only k none q u)

    -- exactly those of q are active
    marks_once : Once q → ActiveAs tasks.table.count jobs (marked none q) → (k : ℕ) → count (eqb k) q ≡ digit (active_in tasks.table jobs k)
    marks_once o a k =
        once_count k q (active_in tasks.table jobs k) o
        (λ m. let n = task_counted k (all k m) in rw (all k m, a k n.0 n.1) (in_seen k m))
        (λ e. let b = both_true _ _ e in let n = task_counted k b.0 in seen_in k (sym (a k n.0 n.1) ∙ b.1))

    once_marks : ((k : ℕ) → count (eqb k) q ≡ digit (active_in tasks.table jobs k)) → ActiveAs tasks.table.count jobs (marked none q)
    once_marks c k low high =
        same_test (job_at jobs k).active (seen_at (marked none q) k)
        (λ e. let on : active_in tasks.table jobs k ≡ true = rw (counted_task k low high, e) in in_seen k (count_in k q (omega (arith, c k, ap digit on))))
        (λ u. (both_true (is_task (table_of tasks.table) k) (job_at jobs k).active
        (digit_true (active_in tasks.table jobs k) (omega (arith, c k, in_count k q (seen_in k u))))).1)

-- ---- somebody runs

module _ {tasks : Tasks} {jobs : List Job} {ready : Ready} {clock first n : ℕ} {bytes : List ℕ} (t : Tested tasks jobs ready clock)
    (run : who_in ready.running ≡ One first) (r : Read (list_at ready.lists) bytes n) (long : length tasks.table.tasks ≡ most) where
  everyone_row : everyone (ready_in ready) ≡ first ∷ row_tasks bytes n
  everyone_row = ap₂ (λ (x : Running) (b : List ℕ). runs x ++ b) run (sym r.tasks)

  row_at : (i : ℕ) → i ≤ n → get_or (first ∷ row_tasks bytes n) i 0 ≡ in_row first bytes i
  row_at zero h = refl
  row_at (suc i) h = tasks_at bytes n i h

  read_in : (k : ℕ) → In k (row_tasks bytes n) → (l : ℕ) × In k (list_at ready.lists l)
  read_in k m = all_in (list_at ready.lists) k (subst (In k) r.tasks m)

  in_read : (k : ℕ) → In k (listing (list_at ready.lists)) → In k (row_tasks bytes n)
  in_read k m = subst (In k) (sym r.tasks) m

  module _ (w : RunsWhole tasks jobs clock first bytes n) where
    waits_right : (l k : ℕ) → In k (list_at ready.lists l) → WaitsRight tasks jobs clock first l k
    waits_right l k m = go l k (r.every l k m)
      where
        go : (l k : ℕ) → (i : ℕ) × (i < n) × (l ≡ byte_level bytes i) × (k ≡ byte_task bytes i) → WaitsRight tasks jobs clock first l k
        go l k (i, h, e, f) = rw (e, f) (w.wait i h)

    row_task : (k : ℕ) → In k (first ∷ row_tasks bytes n) → is_task (table_of tasks.table) k ≡ true
    row_task k (inl e) = rw e w.task
    row_task k (inr m) = let (l, i) = read_in k m in (waits_right l k i).task

    row_once : Once (first ∷ row_tasks bytes n)
    row_once = (λ m. let (l, i) = read_in first m in (waits_right l first i).other refl, subst Once (sym r.tasks) (listing_once (waits_held t)))

    row_order : Sorted (Leads tasks jobs) (first ∷ row_tasks bytes n)
    row_order =
        chain_sorted (Leads tasks jobs) (lead_through (table_of tasks.table) (released_in tasks.table jobs)) 0
        (first ∷ row_tasks bytes n)
        (λ i h. let b : i < n = omega (arith, tasks_length bytes n) in rw (row_at i (omega arith), row_at (suc i) b) (w.order i b))

    row_counted : (k : ℕ) → count (eqb k) (first ∷ row_tasks bytes n) ≡ digit (active_in tasks.table jobs k)
    row_counted = marks_once t long (first ∷ row_tasks bytes n) row_task row_once w.active

    row_active : (k : ℕ) → In k (first ∷ row_tasks bytes n) → ActiveTask (view_in tasks jobs ready clock 0) k
    row_active k m =
        record {
          active = digit_true (active_in tasks.table jobs k) (omega (arith, in_count k (first ∷ row_tasks bytes n) m, row_counted k));
          task = row_task k m;
        }

    pub runs_whole : Whole tasks jobs ready clock
    runs_whole =
        state_whole {reading = 0}
        (record {
          table = t.datable.tasks_whole.table;
          runner = λ k e. let s : k ≡ first = cc in row_active k (inl s);
          waiter = λ l k m. row_active k (inr (in_read k (waits_listed (waits_held t) l k m)));
          clock = t.datable.ticks;
          known = t.datable.jobs_whole.known;
          past = t.datable.jobs_whole.past;
          once = λ k. ap (count (eqb k)) everyone_row ∙ row_counted k;
          place = λ l k m. (waits_right l k m).place;
          order = lists_order (waits_held t) _ (subst (Sorted (Leads tasks jobs)) r.tasks row_order.1);
          first = λ k j e m. let s : k ≡ first = cc in rw s (row_order.0 j (in_read j m));
          nobody = λ e. clash cc;
        })
        t.datable.tasks_whole.copy t.links

  module _ (q : Whole tasks jobs ready clock) where
    queue_order : Sorted (Leads tasks jobs) (first ∷ row_tasks bytes n)
    queue_order = subst (Sorted (Leads tasks jobs)) everyone_row (whole_queue (view_in tasks jobs ready clock 0) (whole_state q 0)).order

    queue_counted : (k : ℕ) → count (eqb k) (first ∷ row_tasks bytes n) ≡ digit (active_in tasks.table jobs k)
    queue_counted k = ap (count (eqb k)) (sym everyone_row) ∙ q.once k

    -- the running one does not wait
    queue_apart : In first (row_tasks bytes n) → ⊥
    queue_apart m =
        omega (
          arith,
          count_cons (eqb first) first (row_tasks bytes n),
          ap digit (eq-eqb first first refl),
          in_count first (row_tasks bytes n) m,
          queue_counted first,
          digit_le (active_in tasks.table jobs first),
        )

    queue_task : (k : ℕ) → In k (first ∷ row_tasks bytes n) → is_task (table_of tasks.table) k ≡ true
    queue_task k (inl e) = (q.runner k (run ∙ ap One (sym e))).task
    queue_task k (inr m) = let (l, i) = read_in k m in (q.waiter l k i).task

    pub whole_runs : RunsWhole tasks jobs clock first bytes n
    whole_runs =
        record {
          task = (q.runner first run).task;
          wait = λ i h.
              let m = r.pair i h in
              record {
                task = (q.waiter _ _ m).task;
                other = λ e. queue_apart (rw e at (in_read _ (waits_listed (waits_held t) _ _ m)));
                place = q.place _ _ m;
              };
          order = λ i h.
              rw (← row_at i (omega arith), ← row_at (suc i) h)
              (sorted_chain (Leads tasks jobs) 0 (first ∷ row_tasks bytes n) queue_order i (omega (arith, tasks_length bytes n)));
          active = once_marks t long (first ∷ row_tasks bytes n) queue_task queue_counted;
        }

-- ---- nobody runs

module _ {tasks : Tasks} {jobs : List Job} {ready : Ready} {clock : ℕ} (t : Tested tasks jobs ready clock) (run : who_in ready.running ≡ Nobody) where
  everyone_none : listing (list_at ready.lists) ≡ [] → everyone (ready_in ready) ≡ []
  everyone_none e = ap₂ (λ (x : Running) (b : List ℕ). runs x ++ b) run e

  pub none_whole : listing (list_at ready.lists) ≡ [] → length tasks.table.tasks ≡ most → ActiveAs tasks.table.count jobs none → Whole tasks jobs ready clock
  unfolding marked
  none_whole e long a =
      state_whole {reading = 0}
      (record {
        table = t.datable.tasks_whole.table;
        runner = λ k o. clash cc;
        waiter = λ l k m. absurd (waits l k m);
        clock = t.datable.ticks;
        known = t.datable.jobs_whole.known;
        past = t.datable.jobs_whole.past;
        once = λ k. ap (count (eqb k)) (everyone_none e) ∙ marks_once t long [] (λ j m. absurd m) tt a k;
        place = λ l k m. absurd (waits l k m);
        order = lists_order (waits_held t) _ (rw e tt);
        first = λ k j o m. clash cc;
        nobody = λ o. e;
      })
      t.datable.tasks_whole.copy t.links
    where
      waits : (l k : ℕ) → In k (list_at ready.lists l) → ⊥
      waits l k m = subst (In k) e (waits_listed (waits_held t) l k m)

  pub whole_none : length tasks.table.tasks ≡ most → Whole tasks jobs ready clock
      → ActiveAs tasks.table.count jobs none × (listing (list_at ready.lists) ≡ [])
  unfolding marked
  whole_none long q =
      let e = q.nobody run in
      (once_marks t long [] (λ j m. absurd m) (λ k. ap (count (eqb k)) (sym (everyone_none e)) ∙ q.once k), e)
