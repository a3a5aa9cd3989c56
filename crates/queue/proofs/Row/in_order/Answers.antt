use Prim.Native.Nat.{suc}
use native.Mathlib.Numerals.{add-one}
use native.Mathlib.Omega.{arith}
use borrow.Author.Count.{below_more}
use borrow.Author.Rules.{rules}
use Rattle.queue.proofs.Row.in_order.Goals as goal

pub may_lead-requires : goal.may_lead-requires
may_lead-requires c = let i = c.loop-i.i in
    (rw c.loop-i.invariant.1 at (c.requires i (omega arith)), c.requires (suc i) (omega arith))

pub loop-i-preserved : goal.loop-i-preserved
loop-i-preserved c = let now = c.loop-i in
    (search rules, rw (add-one now.i), below_more _ _ now.invariant.2 (rw now.invariant.1 c.if-not-may_lead.ensures))
