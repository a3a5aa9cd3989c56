use Rattle.image.proofs.Putting.{FirstPut}
use Rattle.image.proofs.part.put_all.Given as goal

abbrev pub invariant-loop-i : goal.invariant-loop-i
invariant-loop-i g l = let part = g.T.Part in FirstPut part.as_bytes part.SIZE l.initial.bytes l.at l.parts l.bytes l.i
