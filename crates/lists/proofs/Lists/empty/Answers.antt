use Prim.Native.Nat.{suc}
use Rattle.rules.specs.Table.{most}
use Rattle.lists.proofs.Operations.{stores_empty}
use Rattle.lists.proofs.Lists.empty.Goals as goal

pub returns : goal.returns
returns c = stores_empty (suc most)
