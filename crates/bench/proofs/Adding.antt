-- The sum of what many calls on one block name. Assumes nothing.
use Rattle.std.proofs.Common.{◌≡◌, ℕ, ◌+◌, ◌*◌, ◌≤◌, true, List, length, sym, ap, subst, arith}
use native.Mathlib.Nat.{suc-mul, zero-mul}
use native.Mathlib.Numerals.{add-one}
use Rattle.rules.specs.Calls.{Call, step_of}
use Rattle.kernel.specs.declared.Block.{Block}
use Rattle.kernel.specs.declared.Called.{Called}
use Rattle.kernel.specs.Block.{view_of, Whole}
use Rattle.kernel.specs.Answers.{answer_in}
use Rattle.kernel.specs.Calls.{Does}
use Rattle.image.specs.Bytes.{size, block_in}
use Rattle.bench.specs.Sums.{named_in, Sums}

-- what the rules' answer to a call on a block names
abbrev pub names : Block → Call → ℕ
names b c = named_in (step_of (view_of b) c).answer

-- the sum after i of the calls, and the block that the last of them gave back
pub record Added (b : Block) (c : Call) (sum : ℕ) (after : Block) (i : ℕ) : Type 0 where
  pub small : sum ≤ 255 * i
  pub sums : sum ≡ i * names b c
  pub whole : Whole after

module _ {b : Block} {c : Call} where
  pub none_added : Whole b → Added b c 0 b 0
  none_added w = record { small = omega arith; sums = sym (zero-mul (names b c)); whole = w }

  pub next_added : {sum i : ℕ} {after : Block} (r : Called) (n : ℕ) → Added b c sum after i → Does b c r
      → (n ≡ named_in (answer_in r.answer)) × (n ≤ 255) → Added b c (sum + n) r.block (i + 1)
  next_added {sum} {i} r n a d e =
      record {
        small = omega (arith, a.small, e.1);
        sums = rw (add-one i) (omega (arith, a.sums, e.0, ap named_in d.answer, suc-mul i (names b c)));
        whole = d.whole;
      }

  -- all of them, on the whole block that the bytes say
  pub all_added : (bytes : List ℕ) (times : ℕ) {sum i : ℕ} {after : Block} → b ≡ block_in bytes → length bytes ≡ size → Whole b
      → Added b c sum after i → i ≡ times → Sums bytes c times sum
  all_added bytes times {sum} loaded long w a e =
      let s = subst (λ (n : ℕ). sum ≡ n * names b c) e a.sums in
      (true, (long, subst Whole loaded w), subst (λ (x : Block). sum ≡ times * names x c) loaded s)
