use Rattle.kernel.specs.Calls.{call_in}
use Rattle.bench.proofs.Adding.{Added}
use Rattle.bench.proofs.sum_of.Given as goal

abbrev pub invariant-loop : goal.invariant-loop
invariant-loop g l = Added l.kept (call_in l.call) l.sum l.after l.counter
