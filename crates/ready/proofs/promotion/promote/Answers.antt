use Prim.Native.Nat.{◌+◌}
use native.Mathlib.Omega.{arith}
use Rattle.ready.proofs.Promoting.{Promoting, promoting_ends, promoting_stops, promoting_level, promoting_drains, promoting_turns}
use Rattle.ready.proofs.promotion.promote.Goals as goal
use Rattle.ready.proofs.promotion.promote.Goals.{After-drain-moves}

pub returns-in-None : goal.returns-in-None
returns-in-None c = promoting_stops c.loop-from.invariant c.lowest_from.ensures c.in-None.is

pub drain-moves-requires : goal.drain-moves-requires
drain-moves-requires c = promoting_drains c.loop-from.invariant c.lowest_from.ensures _ c.in-Some.is

turned : (c : After-drain-moves) → let m = c.args.moment.now in
    Promoting m.tasks m.jobs m.time c.args.lists c.drain-moves.result.now
    (c.loop-from.total + c.drain-moves.result.moves) (c.in-Some.level.0 + 1)
turned c =
    promoting_turns c.loop-from.invariant c.lowest_from.ensures _ c.in-Some.is
    c.drain-moves.result c.drain-moves.ensures

pub overflow_add-total : goal.overflow_add-total
overflow_add-total c = omega (arith, (turned (goal.at.overflow_add-total c).After-drain-moves).few, (turned (goal.at.overflow_add-total c).After-drain-moves).high)

pub overflow_add-from : goal.overflow_add-from
overflow_add-from c = omega (arith, (turned (goal.at.overflow_add-from c).After-drain-moves).high)

pub loop-from-smaller : goal.loop-from-smaller
loop-from-smaller c =
    omega (arith, promoting_level c.loop-from.invariant c.lowest_from.ensures _ c.in-Some.is)

pub loop-from-preserved : goal.loop-from-preserved
loop-from-preserved c = turned (goal.at.loop-from-preserved c).After-drain-moves

pub returns : goal.returns
returns c = promoting_ends c.loop-from.invariant (omega arith)
