use Rattle.std.proofs.Common.{◌≡◌, false}
use Rattle.rules.specs.Numbers.{first_of}
use Rattle.rules.specs.Records.{items_of, record_tests}
use Rattle.stream.proofs.Tests.{tests_left}
use Rattle.stream.proofs.records_test.Given as goal

abbrev pub invariant-loop-item : goal.invariant-loop-item
invariant-loop-item l = record {
  can : (goal.iterator-loop-item).can_next l.item-iterator;
  ends : (goal.iterator-loop-item).is_finite l.item-iterator;
  left : tests_left l.item-iterator l.begun ≡ first_of (record_tests false (items_of l.stream));
}
