use mathlib.Core.List.{List}
use Prim.Native.Nat.{ℕ, suc, ◌-◌}
use Rattle.rules.specs.Table.{most}
use Rattle.lists.specs.Links.{Stores}
use Rattle.lists.proofs.Passes.{Adding}
use Rattle.lists.proofs.Lists.waiting.Given as goal

abbrev pub invariant-loop-l : goal.invariant-loop-l
invariant-loop-l l = (ls : ℕ → List ℕ) → Stores l.self ls → Adding ls l.l l.sum

abbrev pub decreases-loop-l : goal.decreases-loop-l
decreases-loop-l l = suc most - l.l
