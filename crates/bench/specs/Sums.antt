-- What many calls on one block add up to.
use Rattle.std.specs.Prelude.{ℕ, ◌*◌, ◌≡◌, Bool, List, eqb, length}
use Rattle.laws.specs.Words.{pick, Decides}
use Rattle.rules.specs.Calls.{Call, Release, Done, Clock, Answer, Accepted, Refused, step_of}
use Rattle.rules.specs.Lines.{task_in}
use Rattle.kernel.specs.Block.{view_of, Whole}
use Rattle.image.specs.Bytes.{size, block_in}

-- 0 release, 1 done, else clock
abbrev pub call_by : ℕ → ℕ → ℕ → Call
call_by kind reading task = pick (eqb kind 0) (Release reading task) (pick (eqb kind 1) (Done reading task) (Clock reading))

-- the task that an answer names; 0 where it names none
abbrev pub named_in : Answer → ℕ
named_in (Accepted running moves margin) = task_in running
named_in (Refused r) = 0

-- so many times what the call names, where the bytes are those of a whole block
abbrev pub Sums : List ℕ → Call → ℕ → ℕ → Type 0
Sums bytes c times r =
    (w : Bool) × Decides w ((length bytes ≡ size) × Whole (block_in bytes)) × (r ≡ pick w (times * named_in (step_of (view_of (block_in bytes)) c).answer) 0)
