use native.Mathlib.Omega.{arith}
use Rattle.laws.proofs.Buffers.{puts_written, puts_behind}
use Rattle.image.specs.Bytes.{bytes_of}
use Rattle.image.proofs.save.Goals as goal

pub returns : goal.returns
unfolding bytes_of
returns c = let two = puts_behind c.put.ensures c.put_all.ensures (omega arith) in
    let three = puts_behind two c.put-2.ensures (omega arith) in
    let all = puts_behind three c.put-3.ensures (omega arith) in
    puts_written (omega (arith, all.size, c.requires)) all
