-- What the clock's tests and its addition come to, and how an answer says so.
use Rattle.std.specs.Prelude.{ℕ, Result, Ok, Err}
use Rattle.rules.specs.Numbers.{CounterWentBack, ClockFull, Refusal, Verdict, Passed, Failed, first_of}
use Rattle.rules.specs.Clock.{time_after}
use Rattle.rules.specs.Calls.{clock_tests}
use Rattle.clock.specs.declared.ClockRefusal.{ClockRefusal}
use Rattle.clock.specs.declared.ClockRefusal.TheVariants as Code

-- the verdict of tests 5 and 6, and the new time where they pass; 0 where they do not
pub record Advanced : Type 0 where
  pub verdict : Verdict
  pub time : ℕ

abbrev pub advanced_by : ℕ → Verdict → Advanced
advanced_by time Passed = record { verdict = Passed; time = time }
advanced_by time (Failed r) = record { verdict = Failed r; time = 0 }

unfoldable pub advance_of : ℕ → ℕ → ℕ → Advanced
advance_of clock last reading = advanced_by (time_after clock last reading) (first_of (clock_tests clock last reading))

-- a refusal of the clock's tests, as the rules' refusal
abbrev pub clock_refusal_in : ClockRefusal → Refusal
clock_refusal_in Code.CounterWentBack = CounterWentBack
clock_refusal_in Code.ClockFull = ClockFull

-- what an answer says: the time, or the refusal
abbrev pub advanced_as : {E : Type 0} → (E → Refusal) → Result ℕ E → Advanced
advanced_as means (Ok time) = record { verdict = Passed; time = time }
advanced_as means (Err e) = record { verdict = Failed (means e); time = 0 }

abbrev pub advanced_in : Result ℕ ClockRefusal → Advanced
advanced_in = advanced_as clock_refusal_in
