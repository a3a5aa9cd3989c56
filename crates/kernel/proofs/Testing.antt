-- What the tests of a call find, test by test. Assumes nothing.
use mathlib.Core.Path.{◌≡◌, sym, ap, ◌∙◌}
use mathlib.Core.Bool.{Bool, true, false, ◌&&◌}
use mathlib.Core.List.{List, ◌∷◌}
use Prim.Native.Nat.{ℕ, ◌-◌}
use native.Mathlib.Omega.{arith}
use lib.Dec.{leb}
use lib.ListN.{length}
use Rattle.rules.specs.Numbers.{Test, Passed, first_of}
use Rattle.rules.specs.Table.{most, is_task}
use Rattle.rules.specs.State.{State, time_of}
use Rattle.rules.specs.Calls.{Call, Clock, reading_of, time_at, too_soon, is_running, clock_tests, task_test, release_tests, done_tests, later_tests, tests_of}
use Rattle.rules.proofs.Verdicts.{first_append, first_append_failed}
use Rattle.table.proofs.Tests.{nth}
use Rattle.clock.specs.Advance.{Advanced, advanced_by, advance_of}
use Rattle.clock.proofs.Answers.{verdict_kept, time_kept}
use Rattle.lists.specs.Answers.{who_in}
use Rattle.jobs.specs.Kept.{last_in, job_at, Dated}
use Rattle.jobs.proofs.Keeping.{task_asked, dated_entry}
use Rattle.kernel.specs.declared.Block.{Block}
use Rattle.kernel.specs.declared.Refusal.{Refusal}
use Rattle.kernel.specs.Block.{view_of, Whole}
use Rattle.kernel.specs.Answers.{refusal_in}
use Rattle.kernel.specs.Tests.{checked_in, go_on, checked_of}
use Rattle.std.specs.Prelude.{Err, Ok, Option, Result, Some}

-- ---- tests 5 and 6, and those behind them

-- the clock's answer is that of the clock call's tests
pub clock_answered : (s : State) (n : ℕ) {x : Advanced} → x ≡ advance_of s.clock s.reading n → x ≡ checked_of s (Clock n)
unfolding advance_of tests_of
clock_answered s n h = h

-- a call's tests 5 and 6
abbrev early : State → Call → List Test
early s c = clock_tests s.clock s.reading (reading_of c)

module _ (s : State) (c : Call) (r : Result ℕ Refusal) (found : checked_in r ≡ checked_of s (Clock (reading_of c))) where
  early_verdict : first_of (early s c) ≡ (checked_in r).verdict
  unfolding tests_of
  early_verdict = sym (ap (λ (x : Advanced). x.verdict) found ∙ verdict_kept (time_at s (reading_of c)) (first_of (early s c)))

  -- what 5 and 6 refuse is refused
  pub refused_early : {q : Refusal} → r ≡ Err q → checked_in (Err q) ≡ checked_of s c
  unfolding tests_of
  refused_early {q} e =
      ap (advanced_by (time_at s (reading_of c)))
      (sym (first_append_failed (early s c) (later_tests s c) (refusal_in q) (early_verdict ∙ ap (λ (x : Result ℕ Refusal). (checked_in x).verdict) e)))

  -- and what they let pass goes on, at its time, to the tests behind them
  pub goes_on : (tests : ℕ → List Test) → tests (time_at s (reading_of c)) ≡ later_tests s c → {t : ℕ} → r ≡ Ok t → go_on t (tests t) ≡ checked_of s c
  unfolding tests_of
  goes_on tests same {t} e =
      let v : first_of (early s c) ≡ Passed = early_verdict ∙ ap (λ (x : Result ℕ Refusal). (checked_in x).verdict) e in
      let is : t ≡ time_at s (reading_of c) =
      sym (ap (λ (x : Result ℕ Refusal). (checked_in x).time) e) ∙ ap (λ (x : Advanced). x.time) found ∙ time_kept (time_at s (reading_of c)) (first_of (early s c)) v in
      ap (λ (n : ℕ). go_on n (tests n)) is ∙ ap (go_on (time_at s (reading_of c))) same
      ∙ ap (advanced_by (time_at s (reading_of c))) (sym (first_append (early s c) (later_tests s c) v))

-- ---- test 7

-- what the code asks of the stored table is the rules' test
module _ (b : Block) (long : length b.tasks.table.tasks ≡ most) (k : ℕ) where
  pub asked_task : {r : Bool} → r ≡ (leb 1 k && leb k b.tasks.table.count) → is_task (view_of b).table k ≡ r
  asked_task asked = sym (asked ∙ task_asked b.tasks.table long k)

  -- a task of a whole block
  pub asked_dated : Whole b → true ≡ (leb 1 k && leb k b.tasks.table.count) → Dated b.tasks.table b.jobs k
  asked_dated w asked = record { tested = w.tasks_whole.table; task = asked_task asked; past = omega (arith, w.jobs_whole.past k, w.ticks) }

  pub no_such_task : (time : ℕ) (xs : List Test) → false ≡ (leb 1 k && leb k b.tasks.table.count)
      → checked_in (Err Refusal.NoSuchTask) ≡ go_on time (task_test (view_of b).table k ∷ xs)
  unfolding first_of
  no_such_task time xs asked = rw (asked_task asked)

-- ---- tests 8 and 9

-- a release at t, and spacing counted from it
module _ {l : Option ℕ} {t : ℕ} (e : l ≡ Some t) where
  pub time_found : time_of (last_in l) ≡ t
  time_found = rw e

module _ (b : Block) (time k : ℕ) (d : Dated b.tasks.table b.jobs k) where
  pub task_active : (job_at b.jobs k).active ≡ true → checked_in (Err Refusal.TaskActive) ≡ go_on time (release_tests (view_of b) time k)
  unfolding first_of
  task_active a = rw (d.task, a)

  module _ (long : length b.tasks.table.tasks ≡ most) (a : (job_at b.jobs k).active ≡ false) where
    abbrev soon : Bool
    soon = too_soon (last_in (job_at b.jobs k).last) (nth b.tasks.table (k - 1)).t time

    pub released_soon : soon ≡ true → checked_in (Err Refusal.TooSoon) ≡ go_on time (release_tests (view_of b) time k)
    unfolding first_of
    released_soon h = rw (d.task, dated_entry d long, a, h)

    pub release_allowed : soon ≡ false → checked_in (Ok time) ≡ go_on time (release_tests (view_of b) time k)
    unfolding first_of
    release_allowed h = rw (d.task, dated_entry d long, a, h)

-- ---- test 10

module _ (b : Block) (time k : ℕ) (task : is_task (view_of b).table k ≡ true) where
  pub not_running : is_running (who_in b.ready.running) k ≡ false → checked_in (Err Refusal.NotRunning) ≡ go_on time (done_tests (view_of b) k)
  unfolding first_of
  not_running h = rw (task, h)

  pub end_allowed : is_running (who_in b.ready.running) k ≡ true → checked_in (Ok time) ≡ go_on time (done_tests (view_of b) k)
  unfolding first_of
  end_allowed h = rw (task, h)
