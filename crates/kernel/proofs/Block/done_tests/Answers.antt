use mathlib.Core.Path.{refl, ◌∙◌}
use Rattle.kernel.specs.Block.{view_of}
use Rattle.rules.specs.Calls.{done_tests}
use Rattle.kernel.proofs.Testing.{refused_early, goes_on}
use Rattle.kernel.proofs.Block.done_tests.Goals as goal

pub returns-in-Err : goal.returns-in-Err
returns-in-Err c = refused_early _ _ _ c.clock_tests.ensures c.in-Err.is

pub returns-in-Ok : goal.returns-in-Ok
returns-in-Ok c =
    c.may_end.ensures ∙ goes_on _ _ _ c.clock_tests.ensures (λ t. done_tests (view_of c.args.self) c.args.task.0) refl c.in-Ok.is
