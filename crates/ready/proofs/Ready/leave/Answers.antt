use native.Mathlib.Omega.{arith}
use Rattle.ready.proofs.Runners.{leaves_nobody, leaves_level, leaves_front}
use Rattle.ready.proofs.Ready.leave.Goals as goal

pub pop_front-popped-requires : goal.pop_front-popped-requires
pop_front-popped-requires c = let p = c.requires in
    record {
      lists = p.ready.lists;
      stores = p.keeps.stores;
      level = omega (arith, leaves_level c.lowest.ensures _ c.in-Some.is p);
    }

pub returns-in-None : goal.returns-in-None
returns-in-None c = leaves_nobody c.lowest.ensures c.in-None.is

pub returns-in-Some : goal.returns-in-Some
returns-in-Some c =
    leaves_front c.lowest.ensures _ c.in-Some.is c.pop_front-popped.result
    c.pop_front-popped.ensures
