use mathlib.Core.Path.{◌≡◌, sym, ap, subst, ◌∙◌}
use mathlib.Core.Bool.{false}
use native.Mathlib.Omega.{arith}
use Prim.Native.Nat.{ℕ, zero, suc, ◌+◌, ◌-◌, ◌<◌, ◌≤◌}
use mathlib.Core.List.{List}
use borrow.Author.Rules.{rules}
use lib.ListN.{take, drop, get_or}
use Rattle.laws.proofs.Bools.{true_false}
use Rattle.std.proofs.lemmas.List.{get_or-take, get_or-drop}
use Rattle.jobs.specs.declared.Job.{Job}
use Rattle.jobs.specs.Kept.{last_in, no_job, job_at}
use Rattle.whole.specs.Parts.{dated_by}
use Rattle.whole.proofs.Dates.{dated_whole, whole_dated}
use Rattle.whole.proofs.jobs_whole.Goals as goal

-- the place behind place 0, i further
behind : (n : ℕ) (jobs : List Job) (i : ℕ) → i < n → get_or (take n (drop 1 jobs)) i no_job ≡ job_at jobs (suc i)
behind n jobs i h = get_or-take n (drop 1 jobs) i no_job h ∙ get_or-drop 1 jobs i no_job ∙ ap (job_at jobs) (let e : 1 + i ≡ suc i = omega arith in e)

pub returns-then-not-is_dated : goal.returns-then-not-is_dated
returns-then-not-is_dated c = λ w.
    let m = c.args.moment.now in
    let i = c.loop-job.job-index in
    let here : i < m.tasks.table.count = search rules in
    let e = behind (m.tasks.table.count + 1 - 1) m.jobs i (omega arith) in
    true_false _ (whole_dated m.sized w (suc i) (omega arith) (omega arith))
    (subst (λ (j : Job). dated_by j.active (last_in j.last) m.time ≡ false) e (sym (c.if-not-is_dated.ensures)))

-- each place from 1 on, where each behind place 0 is told
each : (P : ℕ → Type 0) (n : ℕ) → ((i : ℕ) → i < n → P (suc i)) → (k : ℕ) → 1 ≤ k → k ≤ n → P k
each P n h zero low high = let no : ⊥ = omega arith in absurd no
each P n h (suc i) low high = h i (omega arith)

pub returns : goal.returns
returns c =
    let m = c.args.moment.now in
    let all : c.loop-job.job-index ≡ m.tasks.table.count = search rules in
    dated_whole m.sized (each _ m.tasks.table.count (λ i h. c.loop-job.invariant i (omega arith)))
