use Rattle.std.proofs.Common.{rules}
use Rattle.image.proofs.Taking.{all_made}
use Rattle.image.proofs.part.take_all.Goals as goal

pub returns : goal.returns
returns g c = let part = g.T.Part in
    all_made (part.from_bytes c.args.bytes.now) part.SIZE c.args.at (λ i y q called. search rules) c.from_fn.result g.row.N c.from_fn.ensures.items
