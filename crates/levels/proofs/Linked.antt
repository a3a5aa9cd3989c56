-- The functions of this crate in one table, and the code of those that crates above call, in each world of tables that has this one (`In`):
-- for a proof that runs them. Assumes nothing.
use prog.Linked.{Tree, World, Holds}
use Rattle.laws.proofs.Linking.{Found}
use Rattle.levels.proofs.TheLink as link
use Rattle.levels.proofs.agrees.Symbol as agrees'
use Rattle.levels.proofs.has_left.Symbol as has_left'
use Rattle.levels.proofs.level_in.Symbol as level_in'
use Rattle.levels.proofs.plan_of.Symbol as plan_of'
use Rattle.levels.proofs.remaining.Symbol as remaining'
use Rattle.levels.proofs.rising.Symbol as rising'

abbrev pub functions : Tree
functions = link.table

abbrev pub In : World → Type 0
In W = Holds W "levels" functions

pub agrees : Found In agrees'.code
agrees W i = link.linked-levels::agrees W i tt

pub has_left : Found In has_left'.code
has_left W i = link.linked-levels::has_left W i tt

pub level_in : Found In level_in'.code
level_in W i = link.linked-levels::level_in W i tt

pub plan_of : Found In plan_of'.code
plan_of W i = link.linked-levels::plan_of W i tt

pub remaining : Found In remaining'.code
remaining W i = link.linked-levels::remaining W i tt

pub rising : Found In rising'.code
rising W i = link.linked-levels::rising W i tt
