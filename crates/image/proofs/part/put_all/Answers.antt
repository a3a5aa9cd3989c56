use Rattle.std.proofs.Common.{arith, refl}
use Rattle.image.proofs.Putting.{none_put, next_put}
use Rattle.image.proofs.part.put_all.Goals as goal

pub loop-i-init : goal.loop-i-init
loop-i-init g c = none_put g.T.Part.as_bytes g.T.Part.SIZE c.args.bytes.now c.args.at c.args.parts.now

pub loop-i-preserved : goal.loop-i-preserved
loop-i-preserved g c =
    let part = g.T.Part in
    next_put part.as_bytes part.SIZE c.args.parts.now c.loop-i.invariant c.index-parts-i.result c.SIZE.result (omega arith) c.SIZE.ensures c.put.ensures refl
