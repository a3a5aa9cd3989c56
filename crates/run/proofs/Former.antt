-- Request 9, of the code: a stream that the rules' runner accepts with a smaller limit gives that runner's output. Assumes nothing.
use mathlib.Core.Path.{subst}
use mathlib.Core.List.{List}
use Prim.Native.Nat.{ℕ, ◌≤◌}
use borrow.Author.Tests.{le-leb}
use lib.ListN.{length}
use Rattle.laws.specs.Words.{Puts}
use Rattle.rules.specs.Table.{most}
use Rattle.rules.specs.Runner.{output_within, IsRefusal}
use Rattle.rules.proofs.Limits.{equal_output}
use Rattle.run.specs.Run.{room, Runs}

pub former_output : (former : ℕ) → former ≤ most → (s before : List ℕ) (r : ℕ) (after : List ℕ) → room ≤ length before → Runs s before r after
    → (IsRefusal (output_within former s) → ⊥) → Puts before 0 (output_within former s) r after
former_output former smaller s before r after enough runs accepted =
    subst (λ (output : List ℕ). Puts before 0 output r after) (equal_output former most smaller s accepted) (rw (le-leb room (length before) enough) at runs)
