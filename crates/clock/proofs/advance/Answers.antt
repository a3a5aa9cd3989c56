use Rattle.std.proofs.Common.{sym, arith}
use Rattle.clock.proofs.Answers.{turned_back, full, goes_on}
use Rattle.clock.proofs.advance.Goals as goal

pub returns-then-ticks-ge-HALF_TURN : goal.returns-then-ticks-ge-HALF_TURN
returns-then-ticks-ge-HALF_TURN c = sym (turned_back _ _ _ _ c.elapsed-ticks.ensures (omega arith))

pub returns-then-time-gt-LAST_TICK : goal.returns-then-time-gt-LAST_TICK
returns-then-time-gt-LAST_TICK c = sym (full _ _ _ _ c.elapsed-ticks.ensures (omega arith) (omega arith))

pub returns : goal.returns
returns c = sym (goes_on _ _ _ _ c.elapsed-ticks.ensures (omega arith) (omega arith))
