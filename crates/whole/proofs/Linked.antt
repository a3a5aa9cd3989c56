-- The functions of this crate in one table, and the code of those that crates above call, in each world of tables that has this one and those of the
-- crates below (`In`): for a proof that runs them. Assumes nothing.
use mathlib.Core.List.{[], ◌∷◌}
use lib.Chars.{codes}
use prog.Linked.{Tree, World, Holds}
use Rattle.laws.proofs.Linking.{Found}
use Rattle.levels.proofs.Linked as levels
use Rattle.lists.proofs.Linked as lists
use Rattle.queue.proofs.Linked as queue
use Rattle.stored.proofs.Linked as stored
use Rattle.table.proofs.Linked as table
use Rattle.whole.proofs.TheLink as link
use Rattle.whole.proofs.is_whole.Symbol as is_whole'

abbrev pub functions : Tree
functions = link.table

-- the tables of this crate and of the two that no crate above names
abbrev pub tables : World
tables = (codes "whole", functions) ∷ (codes "queue", queue.functions) ∷ (codes "stored", stored.functions) ∷ []

abbrev pub In : World → Type 0
In W = Holds W "whole" functions × lists.In W × queue.In W × stored.In W × table.In W

below : (W : World) → In W → link.Below W
below W i =
    (levels.agrees W i.2.1.1, (lists.list_all W i.1, (lists.stored_from W i.1, (queue.runs_whole W i.2, (queue.active_as W i.2, (stored.holds_lists W i.3, (table.tests_to_3 W i.4, tt)))))))

pub is_whole : Found In is_whole'.code
is_whole W i = link.linked-whole::is_whole W i.0 (below W i)
