use Rattle.std.proofs.Common.{◌∙◌, ap, [], ◌∷◌}
use Rattle.laws.proofs.Buffers.{puts_as}
use Rattle.image.specs.Bytes.{all_bytes}
use Rattle.image.proofs.Numbers.{le_bytes}
use Rattle.image.proofs.part.U32Part.put.Goals as goal

pub returns : goal.returns
returns c = puts_as (ap (all_bytes (λ n. n ∷ [])) c.to_le_bytes.ensures ∙ le_bytes 4 c.args.self) c.put_all.ensures
