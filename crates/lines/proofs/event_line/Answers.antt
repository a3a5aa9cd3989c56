use Rattle.text.proofs.Writes.{writes_then}
use Rattle.rules.specs.Text.{event_text}
use Rattle.lines.proofs.event_line.Goals as goal

pub returns : goal.returns
unfolding event_text
returns c =
    let to_answer = writes_then (writes_then c.byte.ensures c.column.ensures) c.column-2.ensures in
    let to_waiting = writes_then (writes_then (writes_then to_answer c.column-3.ensures) c.column-4.ensures) c.column-5.ensures in
    writes_then (writes_then to_waiting c.put_margin.ensures) c.byte-2.ensures
