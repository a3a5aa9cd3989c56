-- What is read, and how a run ended. Which bytes are read, and whether a write succeeds, is the system's.
use Rattle.std.specs.Prelude.{ℕ, suc, ◌≡◌, List, take, ⊤, Result, IfOk}
use Rattle.io.specs.Counts.{IsPrefixLen}
use Rattle.rules.specs.Numbers.{Verdict, Passed, Failed, first_of, longest}
use Rattle.rules.specs.Records.{runner_tests}
use Rattle.files.specs.declared.Ended.{Ended}
use Rattle.files.specs.declared.Ended.TheVariants.{Accepted, Refused}
use Rattle.files.specs.declared.Failure.{Failure}
use Rattle.files.specs.declared.Failure.TheVariants.{Reading, Writing}

-- no more bytes were read than the buffer has places; where a read failed, nothing is known
abbrev pub ReadInto : {E : Type 0} → Result ℕ E → List ℕ → Type 0
ReadInto r buffer = IfOk r (λ n. IsPrefixLen n buffer)

-- how a run ends whose output could be written: accepted exactly when its stream passed the tests
abbrev pub ended_by : Verdict → Ended
ended_by Passed = Accepted
ended_by (Failed r) = Refused

-- whether a run was accepted is what the rules' tests say, unless its output could not be written
abbrev pub EndsAs : {E : Type 0} → List ℕ → Result Ended E → Type 0
EndsAs s r = IfOk r (λ ended. ended ≡ ended_by (first_of (runner_tests s)))

-- what is read of known bytes: all, but no more than one byte above the longest stream
abbrev pub stream_front : List ℕ → List ℕ
stream_front bytes = take (suc longest) bytes

-- the fact P, where it was the reading that failed
abbrev pub OnUnread : Failure → Type 0 → Type 0
OnUnread (Reading e) P = P
OnUnread (Writing e) P = ⊤
