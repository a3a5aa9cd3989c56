use native.Mathlib.Omega.{arith}
use Rattle.laws.proofs.Arrays.{long_map}
use Rattle.lists.proofs.Operations.{last_place, pushed_back_first, pushed_back_more}
use borrow.Author.Rules.{rules}
use Rattle.lists.proofs.Lists.push_back.Goals as goal

pub returns-then-z-eq0 : goal.returns-then-z-eq0
returns-then-z-eq0 c = λ ls st.
    pushed_back_first (search (rules, long_map)) st _ c.args.task c.requires _ c.if-z-eq0.true c.with_bit.ensures

pub bounds-self-z : goal.bounds-self-z
bounds-self-z c = omega (arith, last_place c.requires.stores c.args.level.0)

pub returns : goal.returns
returns c = λ ls st. pushed_back_more (search (rules, long_map)) st _ c.args.task c.requires c.if-z-eq0.false
