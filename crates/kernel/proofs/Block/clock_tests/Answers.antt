use mathlib.Core.Path.{ap, ◌∙◌}
use Rattle.rules.specs.Numbers as Numbers
use Rattle.clock.specs.Advance.{Advanced}
use Rattle.kernel.proofs.Testing.{clock_answered}
use Rattle.kernel.proofs.Block.clock_tests.Goals as goal

abbrev refused_at : Numbers.Refusal → Advanced
refused_at q = record { verdict = Numbers.Failed q; time = 0 }

pub returns-in-Ok : goal.returns-in-Ok
returns-in-Ok c = clock_answered _ _ (c.in-Ok.ensures)

pub returns-in-Err : goal.returns-in-Err
returns-in-Err c =
    clock_answered _ _ (ap refused_at c.from.ensures ∙ c.in-Err.ensures)
