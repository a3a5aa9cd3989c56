use Rattle.rules.specs.Table.{most}
use Rattle.laws.proofs.Bits.{bit_set}
use borrow.Author.Rules.{rules}
use Rattle.lists.proofs.with_bit.Goals as goal

pub returns : goal.returns
returns c = bit_set most _ _ (search rules)
