-- Request 9, "every stream that the former runner accepted gives equal output": of any two limits on the number of tasks. Assumes nothing.
use mathlib.Core.Path.{◌≡◌, ap, ◌∙◌}
use mathlib.Core.List.{List}
use Prim.Native.Nat.{ℕ, ◌≤◌}
use native.Mathlib.Omega.{arith}
use Rattle.rules.specs.Numbers.{Passed, first_of}
use Rattle.rules.specs.Table.{Task, most, table_tests_within}
use Rattle.rules.specs.Records.{tasks_read, calls_read, stream_tests, runner_tests_within}
use Rattle.rules.specs.Runner.{output_by, output_within, IsRefusal, GivesEqualOutput}
use Rattle.rules.proofs.Verdicts.{verdict_cases, asks_passes, asks_passed, first_append, append_passed}
use Rattle.rules.proofs.Tables.{size_asked}
use Rattle.rules.proofs.Runner.{refusal_letter}

module _ (former limit : ℕ) (larger : former ≤ limit) where
  -- only the first of the table's tests knows the limit
  table_passes : (table : List Task) → first_of (table_tests_within former table) ≡ Passed → first_of (table_tests_within limit table) ≡ Passed
  table_passes table e =
      let p = asks_passed (size_asked former table) _ e in
      asks_passes (size_asked limit table) _ (omega (arith, p.0)) ∙ p.1

  stream_passes : (s : List ℕ) → first_of (runner_tests_within former s) ≡ Passed → first_of (runner_tests_within limit s) ≡ Passed
  stream_passes s e =
      let p = append_passed (stream_tests s) (table_tests_within former (tasks_read s)) e in
      first_append (stream_tests s) (table_tests_within limit (tasks_read s)) p.0 ∙ table_passes (tasks_read s) p.1

  -- a stream that passes under the former limit has its report under both, which knows no limit; any other has an `X` line under the former
  pub equal_output : GivesEqualOutput former limit
  unfolding output_within
  equal_output s accepted =
      verdict_cases
      (λ v. (IsRefusal (output_by (tasks_read s) (calls_read s) v) → ⊥)
      → output_by (tasks_read s) (calls_read s) (first_of (runner_tests_within limit s)) ≡ output_by (tasks_read s) (calls_read s) v)
      (first_of (runner_tests_within former s)) (λ e x. ap (output_by (tasks_read s) (calls_read s)) (stream_passes s e)) (λ r e x. absurd (x (refusal_letter r))) accepted

-- 32 tasks, as it was, and 64
pub request_9 : GivesEqualOutput 32 most
request_9 = equal_output 32 most (omega arith)
