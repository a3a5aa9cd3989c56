use Rattle.laws.proofs.Arrays.{long_map}
use Rattle.lists.proofs.Operations.{front_nobody}
use borrow.Author.Rules.{rules}
use Rattle.lists.proofs.Lists.front.Goals as goal

pub returns-then-head-eq0 : goal.returns-then-head-eq0
returns-then-head-eq0 c = λ ls st. front_nobody (search (rules, long_map)) st _ c.requires.level c.if-head-eq0.true
