-- Two results that a contract allows are equal. Assumes nothing.
use mathlib.Core.Path.{◌≡◌, sym, ◌∙◌}
use mathlib.Core.Bool.{Bool}
use mathlib.Core.List.{List}
use Prim.Native.Nat.{ℕ}
use Rattle.std.specs.Prelude.{Option}
use Rattle.lists.specs.declared.Lists.{Lists}
use Rattle.stored.specs.Test.{Went}

-- go_along
pub gone_result : (s : Lists) (l : ℕ) (before : List Bool) (a b : Option (List Bool)) → Went s l before a → Went s l before b → a ≡ b
gone_result s l before a b p q = p ∙ sym q
