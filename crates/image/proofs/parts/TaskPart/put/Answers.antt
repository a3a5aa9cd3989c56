use native.Mathlib.Omega.{arith}
use Rattle.laws.proofs.Buffers.{puts_to, puts_behind}
use Rattle.image.proofs.parts.TaskPart.put.Goals as goal

pub returns : goal.returns
returns c = let two = puts_behind c.put.ensures c.put-2.ensures (omega arith) in puts_to (omega arith) (puts_behind two c.put-3.ensures (omega arith))
