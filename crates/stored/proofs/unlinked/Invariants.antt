use mathlib.Core.Path.{◌≡◌}
use mathlib.Core.Bool.{false}
use Prim.Native.Nat.{ℕ, ◌<◌}
use Rattle.lists.specs.Links.{at}
use Rattle.lists.specs.Marks.{seen_at}
use Rattle.stored.proofs.unlinked.Given as goal

abbrev pub invariant-loop-x : goal.invariant-loop-x
invariant-loop-x l = (y : ℕ) → y < l.x → seen_at l.fn.seen y ≡ false → at l.fn.stored.next y ≡ 0
