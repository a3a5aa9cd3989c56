-- Two results that a contract allows are equal. Assumes nothing.
use mathlib.Core.Path.{◌≡◌, sym, ap, ◌∙◌}
use mathlib.Core.Bool.{Bool}
use mathlib.Core.List.{List}
use Prim.Native.Nat.{ℕ, ◌*◌}
use lib.ListN.{length}
use Rattle.laws.specs.Words.{pick}
use Rattle.laws.proofs.Bools.{decides_one}
use Rattle.rules.specs.Calls.{Call}
use Rattle.kernel.specs.Block.{Whole}
use Rattle.image.specs.Bytes.{size, block_in}
use Rattle.bench.specs.Sums.{Sums}
use Rattle.bench.proofs.Adding.{names}

-- one test tells whether the bytes are a whole block's, and then the sum is a number of times what one call names
pub sums_one : (bytes : List ℕ) (c : Call) (times r x : ℕ) → Sums bytes c times r → Sums bytes c times x → x ≡ r
sums_one bytes c times r x p q =
    q.2 ∙ ap (λ (w : Bool). pick w (times * names (block_in bytes) c) 0) (decides_one ((length bytes ≡ size) × Whole (block_in bytes)) q.0 p.0 q.1 p.1) ∙ sym p.2
