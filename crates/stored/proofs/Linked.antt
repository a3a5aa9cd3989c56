-- The functions of this crate in one table, and the code of those that crates above call, in each world of tables that has this one (`In`):
-- for a proof that runs them. Assumes nothing.
use prog.Linked.{Tree, World, Holds}
use Rattle.laws.proofs.Linking.{Found}
use Rattle.stored.proofs.TheLink as link
use Rattle.stored.proofs.holds_lists.Symbol as holds_lists'

abbrev pub functions : Tree
functions = link.table

abbrev pub In : World → Type 0
In W = Holds W "stored" functions

pub holds_lists : Found In holds_lists'.code
holds_lists W i = link.linked-stored::holds_lists W i tt
