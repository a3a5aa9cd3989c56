use Rattle.laws.proofs.Arrays.{long_map}
use Rattle.lists.proofs.Operations.{pushed_front_first, pushed_front_more}
use borrow.Author.Rules.{rules}
use Rattle.lists.proofs.Lists.push_front.Goals as goal

pub returns-then-second-eq0 : goal.returns-then-second-eq0
returns-then-second-eq0 c = λ ls st.
    pushed_front_first (search (rules, long_map)) st _ c.args.task c.requires _ c.if-second-eq0.true c.with_bit.ensures

pub returns : goal.returns
returns c = λ ls st. pushed_front_more (search (rules, long_map)) st _ c.args.task c.requires c.if-second-eq0.false
