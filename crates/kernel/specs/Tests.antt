-- What the tests of a call find.
use Rattle.std.specs.Prelude.{ℕ, List, Result}
use Rattle.rules.specs.Numbers.{Test, first_of}
use Rattle.rules.specs.State.{State}
use Rattle.rules.specs.Calls.{Call, reading_of, time_at, tests_of}
use Rattle.clock.specs.Advance.{Advanced, advanced_by, advanced_as}
use Rattle.kernel.specs.declared.Refusal.{Refusal}
use Rattle.kernel.specs.Answers.{refusal_in}

-- the verdict, and the time of the call where all tests passed
abbrev pub checked_in : Result ℕ Refusal → Advanced
checked_in = advanced_as refusal_in

-- what a list of tests at this time comes to
abbrev pub go_on : ℕ → List Test → Advanced
go_on time tests = advanced_by time (first_of tests)

-- what the tests of the call come to
abbrev pub checked_of : State → Call → Advanced
checked_of s c = go_on (time_at s (reading_of c)) (tests_of s c)
