use native.Mathlib.Omega.{arith}
use Rattle.laws.proofs.Arrays.{long_map}
use Rattle.lists.proofs.Operations.{first_place, popped_none, popped_last, popped_more}
use borrow.Author.Rules.{rules}
use Rattle.lists.proofs.Lists.pop_front.Goals as goal

pub returns-then-x-eq0 : goal.returns-then-x-eq0
returns-then-x-eq0 c = λ ls st. popped_none (search (rules, long_map)) st _ c.requires.level c.if-x-eq0.true

pub bounds-self-x : goal.bounds-self-x
bounds-self-x c = omega (arith, first_place c.requires.stores c.args.level.0)

pub bounds-self-x-2 : goal.bounds-self-x-2
bounds-self-x-2 c = omega (arith, first_place c.requires.stores c.args.level.0)

pub returns-then-after-eq0 : goal.returns-then-after-eq0
returns-then-after-eq0 c = λ ls st.
    popped_last (search (rules, long_map)) st _ c.requires.level c.if-x-eq0.false _ c.if-after-eq0.true c.without_bit.ensures

pub returns : goal.returns
returns c = λ ls st. popped_more (search (rules, long_map)) st _ c.requires.level c.if-x-eq0.false c.if-after-eq0.false
