-- The functions of this crate in one table, and the code of those that crates above call, in each world of tables that has this one (`In`):
-- for a proof that runs them. Assumes nothing.
use prog.Linked.{Tree, World, Holds}
use Rattle.laws.proofs.Linking.{Found}
use Rattle.clock.proofs.TheLink as link
use Rattle.clock.proofs.advance.Symbol as advance'

abbrev pub functions : Tree
functions = link.table

abbrev pub In : World → Type 0
In W = Holds W "clock" functions

pub advance : Found In advance'.code
advance W i = link.linked-clock::advance W i tt
