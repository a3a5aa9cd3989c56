use native.Mathlib.Omega.{arith}
use Rattle.lists.proofs.Lowest.{lowest_nothing, lowest_counted}
use Rattle.lists.proofs.Lists.lowest_from.Goals as goal

pub returns-then-above-eq0 : goal.returns-then-above-eq0
returns-then-above-eq0 c = λ ls st. lowest_nothing st _ c.requires.level c.if-above-eq0.true

pub returns : goal.returns
returns c = λ ls st. lowest_counted st _ c.requires.level (omega arith) c.if-above-eq0.false
