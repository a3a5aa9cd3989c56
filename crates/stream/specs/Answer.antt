-- What the tests of a stream answer, as the rules' verdict.
use Rattle.std.specs.Prelude.{⊤, Result, Ok, Err}
use Rattle.rules.specs.Numbers.{Refusal, Verdict, Passed, Failed}
use Rattle.rules.specs.Numbers as Numbers
use Rattle.stream.specs.declared.StreamRefusal.{StreamRefusal}

-- 12, 13 and 14, and their offsets, are those of this refusal (the rules' `number_of`, `value_of`)
abbrev pub stream_refusal_in : StreamRefusal → Refusal
stream_refusal_in (StreamRefusal.Unreadable n) = Numbers.Unreadable n
stream_refusal_in (StreamRefusal.TaskBehindEvent n) = Numbers.TaskBehindEvent n
stream_refusal_in StreamRefusal.TooLong = Numbers.InputTooLong

abbrev pub stream_in : Result ⊤ StreamRefusal → Verdict
stream_in (Ok _) = Passed
stream_in (Err e) = Failed (stream_refusal_in e)
