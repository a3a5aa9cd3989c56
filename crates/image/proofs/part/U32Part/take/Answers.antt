use Rattle.std.proofs.Common.{◌∙◌, ap, w32}
use Rattle.std.specs.Int.{from_le_bytes}
use Rattle.image.proofs.Numbers.{word_read}
use Rattle.image.proofs.part.U32Part.take.Goals as goal

pub returns : goal.returns
returns c = c.from_le_bytes.ensures ∙ ap (from_le_bytes w32) c.take_all.ensures ∙ word_read c.args.bytes.now c.args.at
