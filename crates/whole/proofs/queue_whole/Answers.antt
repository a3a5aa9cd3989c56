use mathlib.Core.Path.{ap}
use Prim.Native.Nat.{ℕ, ◌*◌, ◌/◌}
use native.Mathlib.Omega.{arith}
use lib.ListN.{replicate, length-replicate}
use Rattle.laws.specs.Words.{Puts}
use Rattle.laws.proofs.Bools.{decides_same}
use Rattle.rules.specs.Table.{most}
use Rattle.rules.specs.Listing.{listing_bytes}
use Rattle.table.proofs.Tests.{few_passed}
use Rattle.lists.specs.Answers.{who_in}
use Rattle.lists.specs.Held.{list_at}
use Rattle.lists.proofs.Walks.{lists_held}
use Rattle.whole.proofs.Reading.{Read, listing_room, listing_read, none_listed, listed_none}
use Rattle.whole.proofs.Queueing.{runs_whole, whole_runs, none_whole, whole_none}
use Rattle.whole.proofs.queue_whole.Goals as goal
use Rattle.whole.proofs.queue_whole.Goals.{After-list_all-end}

listed : (c : After-list_all-end) → Puts (replicate (2 * most) 0) 0 (listing_bytes (list_at c.args.ready.lists)) c.list_all-end.result c.list_all-end.new.buffer
listed c = c.list_all-end.ensures _ (lists_held c.requires.links.stores)

read : (c : After-list_all-end) → Read (list_at c.args.ready.lists) c.list_all-end.new.buffer (c.list_all-end.result / 2)
read c =
    let stored = lists_held c.requires.links.stores in
    listing_read stored _ _ _ (omega (arith, listing_room stored, length-replicate {A = ℕ} (2 * most) 0)) (listed c)

pub list_all-end-requires : goal.list_all-end-requires
list_all-end-requires c = let h = c.requires.links in record { lists = h.lists; stores = h.stores; room = listing_room h.stores }

pub returns-then-end-ne0 : goal.returns-then-end-ne0
returns-then-end-ne0 c = λ q.
    let none = (whole_none c.requires (ap who_in c.in-None.is) c.args.moment.now.sized q).1 in
    omega (arith, listed_none _ (listed (goal.at.returns-then-end-ne0 c).After-list_all-end) none)

pub active_as-requires : goal.active_as-requires
active_as-requires c = few_passed _ c.args.moment.now.sized c.requires.datable.tasks_whole.table

pub invariant_of-row : goal.invariant_of-row
invariant_of-row c = record { few = (read (goal.at.invariant_of-row c).After-list_all-end).few }

pub returns-else-end-ne0 : goal.returns-else-end-ne0
returns-else-end-ne0 c =
    let run = ap who_in c.in-None.is in
    let none = none_listed _ (listed (goal.at.returns-else-end-ne0 c).After-list_all-end) (omega arith) in
    decides_same _ _ c.active_as.result (none_whole c.requires run none c.args.moment.now.sized) (λ q. (whole_none c.requires run c.args.moment.now.sized q).0) c.active_as.ensures

pub returns-in-Some : goal.returns-in-Some
returns-in-Some c =
    let run = ap who_in c.in-Some.is in
    let r = read (goal.at.returns-in-Some c).After-list_all-end in
    decides_same _ _ c.runs_whole.result (runs_whole c.requires run r c.args.moment.now.sized) (whole_runs c.requires run r c.args.moment.now.sized) c.runs_whole.ensures
