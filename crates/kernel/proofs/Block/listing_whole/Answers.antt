use mathlib.Core.Path.{◌≡◌}
use native.Mathlib.Omega.{arith}
use lib.ListN.{length}
use Rattle.rules.specs.State.{waiting}
use Rattle.rules.proofs.Listings.{bytes_twice}
use Rattle.lists.proofs.Together.{listing_few}
use Rattle.kernel.specs.Block.{view_of}
use Rattle.kernel.proofs.Asking.{lists_viewed, listed_short, listed_all}
use Rattle.kernel.proofs.Block.listing_whole.Goals as goal
use Rattle.kernel.proofs.Block.listing_whole.Goals.{After-waiting-waiting}

counted : (c : After-waiting-waiting) → c.waiting-waiting.result ≡ length (waiting (view_of c.args.self))
counted c = c.waiting-waiting.ensures _ (lists_viewed c.args.self c.requires)

pub overflow_mul-waiting : goal.overflow_mul-waiting
overflow_mul-waiting c = omega (arith, counted (goal.at.overflow_mul-waiting c).After-waiting-waiting, listing_few (lists_viewed c.args.self c.requires).waits)

pub returns-then-buffer-waiting : goal.returns-then-buffer-waiting
returns-then-buffer-waiting c = listed_short (view_of c.args.self) c.args.buffer.now (counted (goal.at.returns-then-buffer-waiting c).After-waiting-waiting) (omega (arith, c.if-buffer-waiting.true))

pub list_all-requires : goal.list_all-requires
list_all-requires c =
    record {
      lists = (view_of c.args.self).ready.lists;
      stores = lists_viewed c.args.self c.requires;
      room = omega (arith, counted (goal.at.list_all-requires c).After-waiting-waiting, bytes_twice (view_of c.args.self).ready.lists, c.if-buffer-waiting.false);
    }

pub returns : goal.returns
returns c =
    listed_all (view_of c.args.self) c.args.buffer.now (counted (goal.at.returns c).After-waiting-waiting) c.if-buffer-waiting.false
    (c.list_all.ensures _ (lists_viewed c.args.self c.requires))
