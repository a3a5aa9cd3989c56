use mathlib.Core.Path.{◌≡◌}
use mathlib.Core.Bool.{not}
use Prim.Native.Nat.{ℕ, ◌+◌, ◌<◌}
use lib.Dec.{eqb}
use Rattle.laws.specs.Words.{digit}
use Rattle.laws.specs.Bits.{bit_at}
use Rattle.lists.specs.Links.{at}
use Rattle.stored.proofs.map_true.Given as goal

abbrev pub invariant-loop-k : goal.invariant-loop-k
invariant-loop-k l = (j : ℕ) → j < l.k → bit_at l.fn.stored.map j ≡ digit (not (eqb (at l.fn.stored.first (j + 1)) 0))
