use Rattle.rules.specs.Text.{sum_text}
use Rattle.lines.proofs.sum_line.Goals as goal

pub returns : goal.returns
unfolding sum_text
returns c = c.numbers_line.ensures
