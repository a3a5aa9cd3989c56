use mathlib.Core.List.{List}
use Prim.Native.Nat.{ℕ, ◌-◌}
use Rattle.rules.specs.Table.{most}
use Rattle.lists.specs.Links.{Stores, at}
use Rattle.lists.proofs.Rests.{Counting}
use Rattle.lists.proofs.Lists.length_of.Given as goal

abbrev pub invariant-loop-x : goal.invariant-loop-x
invariant-loop-x l = (ls : ℕ → List ℕ) → Stores l.self ls → Counting (at l.self.next) (ls l.l) l.x.0 l.n

abbrev pub decreases-loop-x : goal.decreases-loop-x
decreases-loop-x l = most - l.n
