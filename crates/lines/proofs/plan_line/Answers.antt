use Rattle.std.proofs.Common.{refl, arith}
use Rattle.text.proofs.Writes.{writes_then, writes_as}
use Rattle.rules.specs.Text.{plan_text}
use Rattle.lines.proofs.plan_line.Goals as goal

pub returns : goal.returns
unfolding plan_text
returns c =
    let to_level = writes_then (writes_then c.byte.ensures c.column.ensures) c.column-2.ensures in
    writes_as refl (omega arith) (writes_then (writes_then to_level c.put_points.ensures) c.byte-2.ensures)
