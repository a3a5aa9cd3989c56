use Rattle.std.proofs.Common.{ap}
use Rattle.table.specs.Stored.{verdict_in}
use Rattle.run.proofs.Output.{table_sound, table_refused, numbers_written}
use Rattle.run.proofs.report.Goals as goal

pub lines-requires : goal.lines-requires
lines-requires c = (
  table_sound c.args.stream.now c.requires.0 _ c.table_in.ensures _ c.start-started.ensures (ap verdict_in c.in-Ok.is),
  c.requires.1,
)

pub returns-in-Err : goal.returns-in-Err
returns-in-Err c =
    numbers_written c.number.ensures c.given.ensures
    (table_refused c.args.stream.now c.requires.0 _ c.table_in.ensures _ c.start-started.ensures _ (ap verdict_in c.in-Err.is)) c.refusal_line.ensures
