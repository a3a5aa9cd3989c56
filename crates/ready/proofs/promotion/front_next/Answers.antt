use Rattle.ready.proofs.Fronts.{front_leaves}
use Rattle.ready.proofs.promotion.front_next.Goals as goal

pub next_of-requires : goal.next_of-requires
next_of-requires c = let p = c.requires in
    front_leaves p _ c.in-Some.is (c.front.ensures p.all.ls p.all.stores)
