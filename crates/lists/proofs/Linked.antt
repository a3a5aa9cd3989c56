-- The functions of this crate in one table, and the code of those that crates above call, in each world of tables that has this one (`In`):
-- for a proof that runs them. Assumes nothing.
use prog.Linked.{Tree, World, Holds}
use Rattle.laws.proofs.Linking.{Found}
use Rattle.lists.proofs.TheLink as link
use Rattle.lists.proofs.Lists.empty.Symbol as empty'
use Rattle.lists.proofs.Lists.front.Symbol as front'
use Rattle.lists.proofs.Lists.list_all.Symbol as list_all'
use Rattle.lists.proofs.Lists.lowest.Symbol as lowest'
use Rattle.lists.proofs.Lists.lowest_from.Symbol as lowest_from'
use Rattle.lists.proofs.Lists.move_front.Symbol as move_front'
use Rattle.lists.proofs.Lists.pop_front.Symbol as pop_front'
use Rattle.lists.proofs.Lists.push_back.Symbol as push_back'
use Rattle.lists.proofs.Lists.push_front.Symbol as push_front'
use Rattle.lists.proofs.Lists.waiting.Symbol as waiting'
use Rattle.lists.proofs.StoredFromLists.from.Symbol as stored_from'

abbrev pub functions : Tree
functions = link.table

abbrev pub In : World → Type 0
In W = Holds W "lists" functions

pub empty : Found In empty'.code
empty W i = link.linked-lists::Lists::empty W i tt

pub front : Found In front'.code
front W i = link.linked-lists::Lists::front W i tt

pub list_all : Found In list_all'.code
list_all W i = link.linked-lists::Lists::list_all W i tt

pub lowest : Found In lowest'.code
lowest W i = link.linked-lists::Lists::lowest W i tt

pub lowest_from : Found In lowest_from'.code
lowest_from W i = link.linked-lists::Lists::lowest_from W i tt

pub move_front : Found In move_front'.code
move_front W i = link.linked-lists::Lists::move_front W i tt

pub pop_front : Found In pop_front'.code
pop_front W i = link.linked-lists::Lists::pop_front W i tt

pub push_back : Found In push_back'.code
push_back W i = link.linked-lists::Lists::push_back W i tt

pub push_front : Found In push_front'.code
push_front W i = link.linked-lists::Lists::push_front W i tt

pub waiting : Found In waiting'.code
waiting W i = link.linked-lists::Lists::waiting W i tt

pub stored_from : Found In stored_from'.code
stored_from W i = link.linked-lists::StoredFromLists::from W i tt
