use native.Mathlib.Omega.{arith}
use Rattle.laws.proofs.Buffers.{puts_to, puts_behind}
use Rattle.image.proofs.parts.NowPart.put.Goals as goal

pub returns : goal.returns
returns c = puts_to (omega arith) (puts_behind c.put.ensures c.put-2.ensures (omega arith))
