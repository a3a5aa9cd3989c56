use Rattle.rules.specs.Table.{most}
use Rattle.laws.proofs.Bits.{bit_cleared}
use borrow.Author.Rules.{rules}
use Rattle.lists.proofs.without_bit.Goals as goal

pub returns : goal.returns
returns c = bit_cleared most _ _ (search rules) (search rules)
