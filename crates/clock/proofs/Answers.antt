-- The three answers of the clock, each from its tests. Assumes nothing.
use Rattle.std.proofs.Common.{◌≡◌, ℕ, ◌+◌, ◌^◌, ◌<◌, ◌≤◌, eqb, sym, refl, ap, ◌∙◌, le-ltb, lt-ltb, le-leb}
use borrow.Author.Tests.{lt-leb}
use Rattle.laws.specs.Words.{pick}
use Rattle.rules.specs.Numbers.{CounterWentBack, ClockFull, Verdict, Passed, Failed, number_in, first_of}
use Rattle.rules.specs.Clock.{elapsed_of, went_back, time_after, last_tick, too_far}
use Rattle.clock.specs.declared.ClockRefusal.{ClockRefusal}
use Rattle.clock.specs.declared.ClockRefusal.TheVariants as Code
use Rattle.std.specs.Prelude.{Result, Ok, Err}
use Rattle.clock.specs.Advance.{Advanced, advanced_by, advance_of, advanced_in}

module _ (clock last reading e : ℕ) (is : e ≡ elapsed_of reading last) where
  pub turned_back : 2 ^ 31 ≤ e → advance_of clock last reading ≡ record { verdict = Failed CounterWentBack; time = 0 }
  unfolding advance_of first_of went_back
  turned_back h = rw (← is, le-leb (2 ^ 31) e h)

  pub full : e < 2 ^ 31 → last_tick < clock + e → advance_of clock last reading ≡ record { verdict = Failed ClockFull; time = 0 }
  unfolding advance_of first_of went_back too_far time_after
  full h g = rw (← is, lt-leb (2 ^ 31) e h, lt-ltb last_tick (clock + e) g)

  pub goes_on : e < 2 ^ 31 → clock + e ≤ last_tick → advance_of clock last reading ≡ record { verdict = Passed; time = clock + e }
  unfolding advance_of first_of went_back too_far time_after
  goes_on h g = rw (← is, lt-leb (2 ^ 31) e h, le-ltb last_tick (clock + e) g)

-- what a verdict and a time come to
pub verdict_kept : (time : ℕ) (v : Verdict) → (advanced_by time v).verdict ≡ v
verdict_kept time Passed = refl
verdict_kept time (Failed r) = refl

pub time_kept : (time : ℕ) (v : Verdict) → v ≡ Passed → (advanced_by time v).time ≡ time
time_kept time v e = rw e

-- the answer that has this number; `time` is for none
abbrev numbered : ℕ → ℕ → Result ℕ ClockRefusal
numbered n time = pick (eqb n 0) (Ok time) (pick (eqb n 5) (Err Code.CounterWentBack) (Err Code.ClockFull))

is_numbered : (a : Result ℕ ClockRefusal) → numbered (number_in (advanced_in a).verdict) (advanced_in a).time ≡ a
is_numbered (Ok time) = refl
is_numbered (Err Code.CounterWentBack) = refl
is_numbered (Err Code.ClockFull) = refl

-- an answer is determined by what it says
pub moved_one : (a b : Result ℕ ClockRefusal) → advanced_in a ≡ advanced_in b → a ≡ b
moved_one a b e = sym (is_numbered a) ∙ ap (λ (x : Advanced). numbered (number_in x.verdict) x.time) e ∙ is_numbered b
