use Rattle.std.proofs.Common.{arith, subst}
use Rattle.std.specs.Io.KnownBytes.{Appends}
use Rattle.files.proofs.Letters.{output_in_front, ends_refused, ends_accepted}
use Rattle.files.proofs.print.Goals as goal

pub returns-then-out-eq88-clause-ends : goal.returns-then-out-eq88-clause-ends
returns-then-out-eq88-clause-ends g c =
    ends_refused c.args.stream.now c.output_room-out.result c.run-size.result c.run-size.new.out (omega arith) c.run-size.ensures c.if-out-eq88.true

pub returns-then-out-eq88-clause-written : goal.returns-then-out-eq88-clause-written
returns-then-out-eq88-clause-written g c =
    subst (Appends _ _) (output_in_front c.args.stream.now c.output_room-out.result c.run-size.result c.run-size.new.out (omega arith) c.run-size.ensures)
    c.in_ok-write_all.ensures.bytes

pub returns-clause-ends : goal.returns-clause-ends
returns-clause-ends g c =
    ends_accepted c.args.stream.now c.output_room-out.result c.run-size.result c.run-size.new.out (omega arith) c.run-size.ensures c.if-out-eq88.false

pub returns-clause-written : goal.returns-clause-written
returns-clause-written g c =
    subst (Appends _ _) (output_in_front c.args.stream.now c.output_room-out.result c.run-size.result c.run-size.new.out (omega arith) c.run-size.ensures)
    c.in_ok-write_all.ensures.bytes
