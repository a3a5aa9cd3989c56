-- What a call on a block gives back: the contracts of release, done and clock.
use Rattle.std.specs.Prelude.{ℕ, ℤ, ◌≡◌, Bool, true, false, Option, Ok, Err}
use Rattle.rules.specs.Numbers.{Passed, first_of}
use Rattle.rules.specs.Numbers as Numbers
use Rattle.rules.specs.Calls.{Call, Release, Done, Clock, reading_of, time_at, tests_of, step_of}
use Rattle.rules.specs.Calls as Calls
use Rattle.ready.specs.declared.Ready.{Ready}
use Rattle.kernel.specs.declared.Block.{Block}
use Rattle.kernel.specs.declared.Call as Code
use Rattle.kernel.specs.declared.Call.TheVariants as Given
use Rattle.kernel.specs.declared.Called.{Called}
use Rattle.kernel.specs.declared.Refusal.{Refusal}
use Rattle.kernel.specs.declared.Refusal.TheVariants.{NotWhole}
use Rattle.kernel.specs.Block.{view_of, Whole, SameTasks, Test15}
use Rattle.kernel.specs.Answers.{answer_in}

-- a call, as the rules' call
abbrev pub call_in : Code.Call → Call
call_in (Given.Release reading task) = Release reading task.0
call_in (Given.Done reading task) = Done reading task.0
call_in (Given.Clock reading) = Clock reading

-- of a whole block: answer and block are those of the rules' step
pub record Does (b : Block) (c : Call) (r : Called) : Type 0 where
  pub answer : answer_in r.answer ≡ (step_of (view_of b) c).answer
  pub view : view_of r.block ≡ (step_of (view_of b) c).state
  pub same : SameTasks b r.block
  pub whole : Whole r.block
  -- "Every other refusal gives the block back equal, its clock and last reading included"
  pub refused : (q : Numbers.Refusal) → answer_in r.answer ≡ Calls.Refused q → r.block ≡ b

abbrev pub refused_as : Refusal → Block → Called
refused_as q b = record { answer = Err q; block = b }

-- who runs and who waits, the time and the reading are stored, and the answer says who runs
abbrev pub accepted_as : Block → Ready → ℕ → ℕ → ℕ → Option ℤ → Called
accepted_as b ready time reading moves margin =
    record {
      answer = Ok (record { running = ready.running; moves = moves; margin = margin });
      block = record { tasks = b.tasks; jobs = b.jobs; ready = ready; now = record { clock = time; reading = reading } };
    }

-- of any block: 15 where it is not whole
abbrev pub GivesBy : Block → Call → Called → Bool → Type 0
GivesBy b c r true = Does b c r
GivesBy b c r false = r ≡ refused_as NotWhole b

abbrev pub Gives : Block → Call → Called → Type 0
Gives b c r = Test15 b (GivesBy b c r)

-- ---- inside: the call passes its tests, and this is its time

pub record Goes (b : Block) (c : Call) (time : ℕ) : Type 0 where
  pub whole : Whole b
  pub passed : first_of (tests_of (view_of b) c) ≡ Passed
  pub at : time ≡ time_at (view_of b) (reading_of c)

-- the block that a call gives back, whatever it answered
abbrev pub Follows : Block → Call → Block → Type 0
Follows b c next = (r : Called) × Gives b c r × (next ≡ r.block)
