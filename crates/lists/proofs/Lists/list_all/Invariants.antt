use mathlib.Core.List.{List}
use Prim.Native.Nat.{ℕ, suc, ◌-◌}
use Rattle.rules.specs.Table.{most}
use Rattle.lists.specs.Links.{Stores}
use Rattle.lists.proofs.Passes.{Listing}
use Rattle.lists.proofs.Lists.list_all.Given as goal

abbrev pub invariant-loop-level : goal.invariant-loop-level
invariant-loop-level l = (ls : ℕ → List ℕ) → Stores l.self ls → Listing ls l.initial.buffer l.level l.at l.buffer

abbrev pub decreases-loop-level : goal.decreases-loop-level
decreases-loop-level l = suc most - l.level
