use Rattle.std.proofs.Common.{◌∙◌, ap, w64}
use Rattle.std.specs.Int.{from_le_bytes}
use Rattle.image.proofs.Numbers.{long_word_read}
use Rattle.image.proofs.part.U64Part.take.Goals as goal

pub returns : goal.returns
returns c = c.from_le_bytes.ensures ∙ ap (from_le_bytes w64) c.take_all.ensures ∙ long_word_read c.args.bytes.now c.args.at
