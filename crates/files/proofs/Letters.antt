-- The first letter of an output tells how its run ended. Assumes nothing.
use Rattle.std.proofs.Common.{ℕ, ◌≡◌, ◌≤◌, List, length, get_or, take, Result, Ok, Err, IsOk, sym, refl, ap, ◌∙◌, arith, le-leb, true≢false, zero-add}
use Rattle.std.proofs.Math.Seq.{take-append_seam}
use Rattle.laws.specs.Words.{Puts}
use Rattle.laws.proofs.Buffers.{puts_length, puts_front, puts_written}
use Rattle.rules.specs.Numbers.{Verdict, Passed, Failed, first_of}
use Rattle.rules.specs.Records.{runner_tests}
use Rattle.rules.specs.Runner.{letter_of, output_of}
use Rattle.rules.proofs.Runner.{output_some, output_letter}
use Rattle.run.specs.Run.{room, Runs}
use Rattle.files.specs.declared.Ended.{Ended}
use Rattle.files.specs.declared.Ended.TheVariants.{Accepted, Refused}
use Rattle.files.specs.Ends.{ended_by, EndsAs}

-- 88 is `X`
refused_by : (v : Verdict) → letter_of v ≡ 88 → Refused ≡ ended_by v
refused_by Passed e = let z : ⊥ = omega arith in absurd z
refused_by (Failed r) e = refl

accepted_by : (v : Verdict) → (letter_of v ≡ 88 → ⊥) → Accepted ≡ ended_by v
accepted_by Passed h = refl
accepted_by (Failed r) h = absurd (h refl)

-- a run into a buffer with room enough
module _ (s before : List ℕ) (size : ℕ) (out : List ℕ) (enough : room ≤ length before) (ran : Runs s before size out × (size ≤ length out)) where
  all_put : Puts before 0 (output_of s) size out
  all_put = rw (le-leb room (length before) enough) at ran.0

  fits : length (output_of s) ≤ length before
  fits = omega (arith, all_put.size, puts_length all_put, ran.1)

  -- the output, and nothing more, stands at the buffer's front
  pub output_in_front : take size out ≡ output_of s
  output_in_front = ap (λ n. take n out) (all_put.size ∙ zero-add _) ∙ ap (take (length (output_of s))) (puts_written fits all_put) ∙ take-append_seam (output_of s) _

  first_letter : get_or out 0 0 ≡ letter_of (first_of (runner_tests s))
  first_letter = puts_front fits all_put 0 0 (output_some s) ∙ output_letter s

  pub ends_refused : get_or out 0 0 ≡ 88 → Refused ≡ ended_by (first_of (runner_tests s))
  ends_refused e = refused_by (first_of (runner_tests s)) (sym first_letter ∙ e)

  pub ends_accepted : (get_or out 0 0 ≡ 88 → ⊥) → Accepted ≡ ended_by (first_of (runner_tests s))
  ends_accepted h = accepted_by (first_of (runner_tests s)) (λ e. h (first_letter ∙ e))

-- two ends of a run whose output was written are the same
pub ends_one : {E : Type 0} (s : List ℕ) (r q : Result Ended E) → EndsAs s r → EndsAs s q → IsOk r → IsOk q → q ≡ r
ends_one s (Ok a) (Ok b) p t h g = ap Ok (t ∙ sym p)
ends_one s (Ok a) (Err e) p t h g = absurd (true≢false (sym g))
ends_one s (Err e) q p t h g = absurd (true≢false (sym h))
