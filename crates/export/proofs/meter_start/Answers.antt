use Rattle.std.proofs.Common.{Err, ap}
use Rattle.table.specs.Stored.{verdict_in}
use Rattle.stream.proofs.Results.{offset_small}
use Rattle.export.proofs.Typed.{started_sizes}
use Rattle.export.proofs.Doors.{begins_unreadable, begins_refused, begins_sound}
use Rattle.export.proofs.meter_start.Goals as goal

-- "offset 65536" is the greatest
pub told-requires : goal.told-requires
told-requires c = offset_small c.args.stream.now (Err c.in-Err.refusal) c.in-Err.ensures

pub returns-in-Err : goal.returns-in-Err
returns-in-Err c = begins_unreadable c.args.stream.now c.args.reading c.args.block.now c.if-block-ne-BLOCK_BYTES.false _ c.in-Err.ensures c.told.ensures

pub returns-in-Err-verdict : goal.returns-in-Err-verdict
returns-in-Err-verdict c =
    begins_refused c.args.stream.now c.args.reading c.args.block.now c.if-block-ne-BLOCK_BYTES.false
    c.in_default.ensures _ c.table_in.ensures c.start-started.result c.start-started.ensures _ (ap verdict_in c.in-Err-verdict.is) c.told-in-Err-verdict.ensures

pub returns : goal.returns
returns c =
    begins_sound c.args.stream.now c.args.reading c.args.block.now c.if-block-ne-BLOCK_BYTES.false
    c.in_default.ensures _ c.table_in.ensures c.start-started.result c.start-started.ensures (ap verdict_in c.in_default-verdict.is)
    (started_sizes c.start-started.result _ c.start-started.type_inv) c.save.ensures
