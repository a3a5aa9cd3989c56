use Rattle.table.specs.Stored.{table_of}
use Rattle.run.proofs.Planning.{Planning}
use Rattle.run.proofs.plans.plan_lines.Given as goal

abbrev pub invariant-loop-k : goal.invariant-loop-k
invariant-loop-k l = Planning (table_of l.tasks.table) l.initial.out l.k l.out
