use native.Mathlib.Omega.{arith}
use Rattle.lists.proofs.Passes.{adding_start, adding_room, adding_turn, adding_end}
use Rattle.lists.proofs.Together.{listing_few}
use Rattle.lists.proofs.Lists.waiting.Goals as goal

pub loop-l-init : goal.loop-l-init
loop-l-init c = λ ls st. adding_start st.waits

pub overflow_add-sum : goal.overflow_add-sum
overflow_add-sum c = let p = c.requires in let now = c.loop-l.invariant p.lists p.stores in
    omega (arith, adding_room now (omega arith), c.length_of-sum.ensures p.lists p.stores, listing_few p.stores.waits)

pub loop-l-preserved : goal.loop-l-preserved
loop-l-preserved c = λ ls st. adding_turn (c.loop-l.invariant ls st) (omega arith) (c.length_of-sum.ensures ls st)

pub returns : goal.returns
returns c = λ ls st. adding_end (c.loop-l.invariant ls st) (omega arith)
