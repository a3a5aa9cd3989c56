use Rattle.text.proofs.Writes.{writes_then}
use Rattle.lines.proofs.numbers_line.Goals as goal

pub returns : goal.returns
returns c = writes_then (writes_then (writes_then c.byte.ensures c.column.ensures) c.column-2.ensures) c.byte-2.ensures
