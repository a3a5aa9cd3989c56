use Rattle.std.proofs.Common.{arith}
use Rattle.records.proofs.Marks.{lies_within, bad_within}
use Rattle.records.proofs.ReaderIterator.next.Goals as goal

pub overflow_add-self : goal.overflow_add-self
overflow_add-self c = omega (arith, lies_within _ _ c.in-Ok-Some.record c.in-Ok-Some.size (rw c.in-Ok-Some.field-0-is at c.in-Ok-Some.ensures.found))

pub returns-in-Ok-Some-clause-goes : goal.returns-in-Ok-Some-clause-goes
returns-in-Ok-Some-clause-goes c =
    let h = lies_within _ _ c.in-Ok-Some.record c.in-Ok-Some.size (rw c.in-Ok-Some.field-0-is at c.in-Ok-Some.ensures.found) in
    record { on = λ _. (tt, tt, omega (arith, h)); keeps = tt; rests = λ _. tt }

pub returns-in-Err-clause-goes : goal.returns-in-Err-clause-goes
returns-in-Err-clause-goes c =
    let h = bad_within _ _ c.in-Err.ensures.found in
    record { on = λ _. (tt, tt, omega (arith, h)); keeps = tt; rests = λ _. tt }
