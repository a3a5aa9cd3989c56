-- What the doors for other languages give back, over the bytes of a block.
use Rattle.std.specs.Prelude.{ℕ, suc, ◌+◌, ◌*◌, ◌≡◌, Bool, true, false, List, [], ◌∷◌, ◌++◌, eqb, pos, negsuc, length, Result}
use Rattle.laws.specs.Words.{pick, Decides, digit, written, Puts}
use Rattle.rules.specs.Numbers.{NotWhole, number_of, value_of, given, Verdict, Passed, Failed, first_of}
use Rattle.rules.specs.Levels.{Point}
use Rattle.rules.specs.Calls.{Call, Margin, None, Ticks, Answer, Accepted, Refused, PlanAnswer, planned_of, planned_by}
use Rattle.rules.specs.Lines.{task_in}
use Rattle.rules.specs.Records.{tasks_read, runner_tests}
use Rattle.kernel.specs.declared.Called.{Called}
use Rattle.kernel.specs.declared.start.Started.{Started}
use Rattle.kernel.specs.declared.Refusal.{Refusal}
use Rattle.kernel.specs.Block.{view_of, Whole, Sizes, Test15}
use Rattle.kernel.specs.Answers.{answer_in}
use Rattle.kernel.specs.Calls as Calls
use Rattle.kernel.specs.Start as Start
use Rattle.kernel.specs.Asks as Asks
use Rattle.stream.specs.Load.{table_in}
use Rattle.image.specs.Bytes.{size, bytes_of, block_in}

-- so many bytes as a block has
abbrev pub is_block : List ℕ → Bool
is_block bytes = eqb (length bytes) size

-- what is asked of bytes that a block is stored into
abbrev pub BlockSized : List ℕ → Type 0
BlockSized bytes = length bytes ≡ size

-- ---- a call

-- a margin in two numbers: which kind it is, and how many ticks
abbrev pub kind_of : Margin → ℕ
kind_of None = 0
kind_of (Ticks (pos n)) = 1
kind_of (Ticks (negsuc n)) = 2

abbrev pub ticks_of : Margin → ℕ
ticks_of None = 0
ticks_of (Ticks (pos n)) = n
ticks_of (Ticks (negsuc n)) = suc n

-- where a call was accepted its block and its answer are stored; a refusal "writes nothing"
abbrev pub AnswersBy : Called → List ℕ → List ℕ → ℕ → List ℕ → List ℕ → Answer → Type 0
AnswersBy called bytes answer r after answered (Accepted x m g) =
    (r ≡ 0) × (after ≡ written (bytes_of called.block) bytes) × (answered ≡ task_in x ∷ m ∷ kind_of g ∷ ticks_of g ∷ [])
AnswersBy called bytes answer r after answered (Refused q) = (r ≡ number_of q) × (after ≡ bytes) × (answered ≡ answer)

abbrev pub Answers : Called → List ℕ → List ℕ → ℕ → List ℕ → List ℕ → Type 0
Answers called bytes answer r after answered = AnswersBy called bytes answer r after answered (answer_in called.answer)

-- a call on the block that the bytes say gave this back, and so much of it is stored
pub record CalledAs (c : Call) (bytes answer : List ℕ) (r : ℕ) (after answered : List ℕ) : Type 0 where
  pub called : Called
  -- (its arrays have as many places as their types say)
  pub sizes : Sizes called.block
  pub gives : Calls.Gives (block_in bytes) c called
  pub answers : Answers called bytes answer r after answered

abbrev pub TellsBy : Call → List ℕ → List ℕ → ℕ → List ℕ → List ℕ → Bool → Type 0
TellsBy c bytes answer r after answered true = CalledAs c bytes answer r after answered
TellsBy c bytes answer r after answered false = (r ≡ number_of NotWhole) × (after ≡ bytes) × (answered ≡ answer)

-- the call on the block that the bytes say; 15 where they are too few or too many
abbrev pub Tells : Call → List ℕ → List ℕ → ℕ → List ℕ → List ℕ → Type 0
Tells c bytes answer r after answered = TellsBy c bytes answer r after answered (is_block bytes)

-- ---- start

-- start gave this back for the stream's table, and its block is stored
pub record StartedAs (s : List ℕ) (reading : ℕ) (bytes after : List ℕ) : Type 0 where
  pub started : Started
  -- (its arrays have as many places as their types say)
  pub sizes : Sizes started.block
  pub starts : Start.Starts (table_in (tasks_read s)) reading started
  pub stored : after ≡ written (bytes_of started.block) bytes

abbrev pub StartBy : List ℕ → ℕ → List ℕ → ℕ → List ℕ → Verdict → Type 0
StartBy s reading bytes r after Passed = (r ≡ 0) × StartedAs s reading bytes after
StartBy s reading bytes r after (Failed q) = (r ≡ number_of q + 256 * given (value_of q)) × (after ≡ bytes)

abbrev pub TellsStartBy : List ℕ → ℕ → List ℕ → ℕ → List ℕ → Bool → Type 0
TellsStartBy s reading bytes r after true = StartBy s reading bytes r after (first_of (runner_tests s))
TellsStartBy s reading bytes r after false = (r ≡ number_of NotWhole) × (after ≡ bytes)

-- the block that the stream's table starts, where stream and table pass the runner's tests
abbrev pub TellsStart : List ℕ → ℕ → List ℕ → ℕ → List ℕ → Type 0
TellsStart s reading bytes r after = TellsStartBy s reading bytes r after (is_block bytes)

-- ---- the listing

-- the number waiting, or 256 times the number of the refusal
abbrev pub number_by : ℕ → Verdict → ℕ
number_by n Passed = n
number_by n (Failed q) = 256 * number_of q

abbrev pub TellsListingBy : List ℕ → List ℕ → ℕ → List ℕ → Bool → Type 0
TellsListingBy bytes before r after true =
    (l : Result ℕ Refusal) × Asks.GivesListing (block_in bytes) before l after × (r ≡ number_by (Asks.listed_in l after).waiting (Asks.listed_in l after).verdict)
TellsListingBy bytes before r after false = (r ≡ 256 * number_of NotWhole) × (after ≡ before)

abbrev pub TellsListing : List ℕ → List ℕ → ℕ → List ℕ → Type 0
TellsListing bytes before r after = TellsListingBy bytes before r after (is_block bytes)

-- ---- a plan

-- of a point the ticks after the release, and the level
abbrev pub point_numbers : Point → List ℕ
point_numbers p = p.at ∷ p.level ∷ []

-- of each point, one behind the other
unfoldable pub plan_numbers : List Point → List ℕ
plan_numbers [] = []
plan_numbers (p ∷ ps) = point_numbers p ++ plan_numbers ps

-- they are put into an array from its front, and its other places stay
abbrev pub PlanPut : List ℕ → List Point → List ℕ → Type 0
PlanPut before points after = Puts before 0 (plan_numbers points) (2 * length points) after

-- the number of points, or 256 times the number of the refusal; a refused one has no points, so nothing is written
abbrev pub PlansBy : PlanAnswer → List ℕ → ℕ → List ℕ → Type 0
PlansBy x before r after = (r ≡ number_by (length x.points) x.verdict) × PlanPut before x.points after

abbrev pub TellsPlanBy : List ℕ → ℕ → List ℕ → ℕ → List ℕ → Bool → Type 0
TellsPlanBy bytes k before r after true =
    Test15 (block_in bytes) (λ whole. PlansBy (pick whole (planned_of (view_of (block_in bytes)) k) (planned_by (view_of (block_in bytes)) k (Failed NotWhole))) before r after)
TellsPlanBy bytes k before r after false = (r ≡ 256 * number_of NotWhole) × (after ≡ before)

-- the plan of a task, asked of the block that the bytes say
abbrev pub TellsPlan : List ℕ → ℕ → List ℕ → ℕ → List ℕ → Type 0
TellsPlan bytes k before r after = TellsPlanBy bytes k before r after (is_block bytes)

-- ---- whether a block is whole

-- 1 where the bytes are those of a whole block
abbrev pub TellsWhole : List ℕ → ℕ → Type 0
TellsWhole bytes r = (w : Bool) × Decides w ((length bytes ≡ size) × Whole (block_in bytes)) × (r ≡ digit w)
