use native.Mathlib.Omega.{arith}
use borrow.Author.Rules.{rules}
use Rattle.ready.proofs.Draining.{draining_starts, draining_ends, draining_all, draining_level, draining_turns}
use Rattle.ready.proofs.promotion.drain.Goals as goal

pub loop-moves-init : goal.loop-moves-init
loop-moves-init c = draining_starts c.requires

pub returns-in-None : goal.returns-in-None
returns-in-None c = draining_ends c.loop-moves.invariant c.front_next.ensures c.in-None.is

pub move_front-now-requires : goal.move_front-now-requires
move_front-now-requires c =
    (search rules, omega (arith, draining_level c.loop-moves.invariant c.front_next.ensures _ c.in-Some.is))

pub loop-moves-preserved : goal.loop-moves-preserved
loop-moves-preserved c =
    draining_turns c.loop-moves.invariant c.front_next.ensures _ c.in-Some.is c.move_front-now.ensures

pub returns : goal.returns
returns c = draining_all c.loop-moves.invariant (omega (arith, c.loop-moves-test.false))
