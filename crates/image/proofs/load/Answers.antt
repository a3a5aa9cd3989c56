use Rattle.image.specs.Bytes.{block_in}
use Rattle.image.proofs.load.Goals as goal

pub returns : goal.returns
unfolding block_in
returns c = rw (c.take.ensures, c.take_all.ensures, c.take-2.ensures, c.take-3.ensures)
