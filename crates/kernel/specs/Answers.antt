-- What the answers of a call say, as the rules' answers. "No." and "With it" of a refusal are those of the rules' `number_of` and `value_of`.
use Rattle.std.specs.Prelude.{ℤ, Option, None, Some, Result, Ok, Err}
use Rattle.rules.specs.Numbers as Numbers
use Rattle.rules.specs.Calls as Calls
use Rattle.lists.specs.Answers.{who_in}
use Rattle.kernel.specs.declared.Refusal.{Refusal}
use Rattle.kernel.specs.declared.Accepted.{Accepted}

abbrev pub refusal_in : Refusal → Numbers.Refusal
refusal_in Refusal.NotWhole = Numbers.NotWhole
refusal_in Refusal.CounterWentBack = Numbers.CounterWentBack
refusal_in Refusal.ClockFull = Numbers.ClockFull
refusal_in Refusal.NoSuchTask = Numbers.NoSuchTask
refusal_in Refusal.TaskActive = Numbers.TaskActive
refusal_in Refusal.TooSoon = Numbers.TooSoon
refusal_in Refusal.NotRunning = Numbers.NotRunning
refusal_in Refusal.BufferTooShort = Numbers.BufferTooShort

abbrev pub margin_in : Option ℤ → Calls.Margin
margin_in None = Calls.None
margin_in (Some t) = Calls.Ticks t

abbrev pub answer_in : Result Accepted Refusal → Calls.Answer
answer_in (Ok a) = Calls.Accepted (who_in a.running) a.moves (margin_in a.margin)
answer_in (Err r) = Calls.Refused (refusal_in r)
