use native.Mathlib.Omega.{arith}
use Rattle.lists.proofs.Passes.{listing_start, listing_room, listing_turn, listing_end}
use Rattle.lists.proofs.Lists.list_all.Goals as goal

pub loop-level-init : goal.loop-level-init
loop-level-init c = λ ls st. listing_start st.waits c.args.buffer.now

pub list_into-at-requires : goal.list_into-at-requires
list_into-at-requires c = let p = c.requires in let now = c.loop-level.invariant p.lists p.stores in
    record {
      lists = p.lists;
      stores = p.stores;
      level = record { low = now.low; high = omega arith };
      room = omega (arith, listing_room now (omega arith), now.filling.size, p.room);
    }

pub loop-level-preserved : goal.loop-level-preserved
loop-level-preserved c = λ ls st. listing_turn (c.loop-level.invariant ls st) (omega arith) (c.list_into-at.ensures ls st)

pub returns : goal.returns
returns c = λ ls st. listing_end (c.loop-level.invariant ls st) (omega arith)
