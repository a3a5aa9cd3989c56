use Rattle.lists.proofs.Operations.{moved_none, moved_one, popped_enters}
use Rattle.lists.proofs.Lists.move_front.Goals as goal

pub push_back-requires : goal.push_back-requires
push_back-requires c =
    let pop = c.pop_front-popped in
    popped_enters c.requires.0.stores _ pop.result (pop.ensures c.requires.0.lists c.requires.0.stores) _ _ c.in-Some.is c.requires.1

pub returns-in-None : goal.returns-in-None
returns-in-None c = λ ls st.
    let pop = c.pop_front-popped in
    moved_none st _ pop.result (pop.ensures ls st) _ c.in-None.is

pub returns-in-Some : goal.returns-in-Some
returns-in-Some c = λ ls st.
    let pop = c.pop_front-popped in
    moved_one st _ pop.result (pop.ensures ls st) _ _ _ c.in-Some.is (c.push_back.ensures _ (pop.ensures ls st).stores)
