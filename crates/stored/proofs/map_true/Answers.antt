use native.Mathlib.Omega.{arith}
use borrow.Author.Count.{below_more}
use borrow.Author.Rules.{rules}
use Rattle.laws.specs.Bits.{bit_at}
use Rattle.stored.proofs.Seeing.{behind_first}
use Rattle.stored.proofs.map_true.Goals as goal

pub returns-then-stored-k : goal.returns-then-stored-k
unfolding bit_at
returns-then-stored-k c = λ h.
    omega (arith, h c.loop-k.k (search rules), rw (behind_first c.args.stored.first c.loop-k.k c.loop-k-test.true) at c.bit_of.ensures)

pub loop-k-preserved : goal.loop-k-preserved
unfolding bit_at
loop-k-preserved c =
    below_more _ _ c.loop-k.invariant
    (omega (arith, rw (behind_first c.args.stored.first c.loop-k.k c.loop-k-test.true) at c.bit_of.ensures))
