-- The functions of this crate in one table, and the code of those that crates above call, in each world of tables that has this one (`In`):
-- for a proof that runs them. Assumes nothing.
use prog.Linked.{Tree, World, Holds}
use Rattle.laws.proofs.Linking.{Found}
use Rattle.table.proofs.TheLink as link
use Rattle.table.proofs.table_test.Symbol as table_test'
use Rattle.table.proofs.tests_to_3.Symbol as tests_to_3'

abbrev pub functions : Tree
functions = link.table

abbrev pub In : World → Type 0
In W = Holds W "table" functions

pub table_test : Found In table_test'.code
table_test W i = link.linked-table::table_test W i tt

pub tests_to_3 : Found In tests_to_3'.code
tests_to_3 W i = link.linked-table::tests_to_3 W i tt
