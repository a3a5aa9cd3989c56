use mathlib.Core.List.{List}
use Prim.Native.Nat.{ℕ, ◌-◌}
use lib.ListN.{length}
use Rattle.lists.specs.Links.{Stores}
use Rattle.lists.specs.Links as links
use Rattle.lists.proofs.Rests.{Writing}
use Rattle.lists.proofs.Lists.list_into.Given as goal

abbrev pub invariant-loop-task : goal.invariant-loop-task
invariant-loop-task l =
    (ls : ℕ → List ℕ) → Stores l.self ls → Writing (links.at l.self.next) l.level.0 (ls l.level.0) l.place l.initial.buffer l.task.0 l.at l.buffer

abbrev pub decreases-loop-task : goal.decreases-loop-task
decreases-loop-task l = length l.initial.buffer - l.at
