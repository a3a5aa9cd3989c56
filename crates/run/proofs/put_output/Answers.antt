use Rattle.std.proofs.Common.{sym}
use Rattle.run.proofs.Output.{stream_refused, numbers_written}
use Rattle.run.proofs.put_output.Goals as goal

pub returns-in-Err : goal.returns-in-Err
returns-in-Err c = numbers_written c.number.ensures c.given.ensures (stream_refused c.args.stream.now _ (sym c.in-Err.ensures)) c.refusal_line.ensures
