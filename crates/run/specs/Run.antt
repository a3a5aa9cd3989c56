-- The run of a stream: what its parts ask and do.
use Rattle.std.specs.Prelude.{ℕ, suc, ◌+◌, ◌*◌, ◌≤◌, ◌<◌, ◌^◌, ◌≡◌, Bool, true, false, List, leb, length}
use Rattle.laws.specs.Words.{Puts}
use Rattle.rules.specs.Numbers.{Passed, first_of}
use Rattle.rules.specs.Table.{is_task}
use Rattle.rules.specs.Calls.{Call, Release, Answer, Accepted, Margin, moves_in, start_of, Step, step_of}
use Rattle.rules.specs.State.{Running}
use Rattle.rules.specs.Histories.{events_of, total_of, bound_of, bound_by}
use Rattle.rules.specs.Lines.{line_of, event_lines}
use Rattle.rules.specs.Text.{event_text, events_text}
use Rattle.rules.specs.Records.{tasks_read, runner_tests}
use Rattle.rules.specs.Runner.{output_of}
use Rattle.table.specs.Stored.{table_of}
use Rattle.levels.specs.Copy.{CopyOf}
use Rattle.jobs.specs.declared.Tasks.{Tasks}
use Rattle.kernel.specs.declared.Block.{Block}
use Rattle.kernel.specs.declared.Called.{Called}
use Rattle.kernel.specs.Block.{view_of, Whole, SameTasks}
use Rattle.kernel.specs.Answers.{answer_in}
use Rattle.text.specs.declared.Text.{Text}
use Rattle.text.specs.Writes.{Writes}
use Rattle.lines.specs.Room.{event_room}
use Rattle.run.specs.declared.events.Progress.{Progress}
use Rattle.run.specs.declared.events.Totals.{Totals}

-- ---- the whole

-- room for the longest output
abbrev pub room : ℕ
room = 2097152

abbrev pub RunsBy : List ℕ → List ℕ → ℕ → List ℕ → Bool → Type 0
RunsBy s before r after true = Puts before 0 (output_of s) r after
RunsBy s before r after false = (r ≡ 0) × (after ≡ before)

-- the output stands in the buffer from its front, and its length is given back; 0 where there is not room enough, and nothing is written
abbrev pub Runs : List ℕ → List ℕ → ℕ → List ℕ → Type 0
Runs s before r after = RunsBy s before r after (leb room (length before))

-- the tests passed, and the block is that which the stream's table starts, "with last reading 0"
pub record StartedBy (s : List ℕ) (b : Block) : Type 0 where
  pub passed : first_of (runner_tests s) ≡ Passed
  pub whole : Whole b
  pub view : view_of b ≡ start_of (tasks_read s) 0

-- ---- P lines

-- the table passed its tests, and the copy is its copy
pub record Laid (tasks : Tasks) : Type 0 where
  pub copy : CopyOf (table_of tasks.table) tasks.rising

-- .. and k is one of its tasks
pub record LaidTask (tasks : Tasks) (k : ℕ) : Type 0 where
  pub laid : Laid tasks
  pub task : is_task (table_of tasks.table) k ≡ true

-- ---- E lines

-- room for those of the longest stream, whose shortest event record has 6 bytes
abbrev pub events_room : ℕ
events_room = 10923 * event_room

-- what a call gave back, as the rules' step
abbrev pub step_in : Called → Step
step_in r = record { answer = answer_in r.answer; state = view_of r.block }

-- the table is laid down, and an accepted release is one of its tasks'
pub record Boundable (tasks : Tasks) (c : Call) (a : Answer) : Type 0 where
  pub laid : Laid tasks
  pub task : (reading k : ℕ) (running : Running) (moves : ℕ) (margin : Margin) → c ≡ Release reading k → a ≡ Accepted running moves margin → is_task (table_of tasks.table) k ≡ true

-- the block is whole, and the numbers are far from their ends
pub record Begins (a : Progress) : Type 0 where
  pub whole : Whole a.block
  pub count : a.count < 2 ^ 20
  pub moves : a.moves ≤ a.count * 2 ^ 32
  pub bound : a.bound ≤ a.count * 2 ^ 32

abbrev pub totals_of : Progress → Totals
totals_of a = record { moves = a.moves; bound = a.bound }

-- what one event does, its call being c
pub record Steps (a : Progress) (c : Call) (before : Text) (r : Progress) (after : Text) : Type 0 where
  pub whole : Whole r.block
  pub view : view_of r.block ≡ (step_of (view_of a.block) c).state
  pub same : SameTasks a.block r.block
  pub text : Writes before (event_text (line_of (suc a.count) (step_of (view_of a.block) c))) event_room after
  pub count : r.count ≡ suc a.count
  pub moves : r.moves ≡ a.moves + moves_in (step_of (view_of a.block) c).answer
  pub bound : r.bound ≡ a.bound + bound_by (table_of a.block.tasks.table) c (step_of (view_of a.block) c).answer
  pub few_moves : r.moves ≤ a.moves + 2 ^ 32
  pub small_bound : r.bound ≤ a.bound + 2 ^ 32

-- what all events do from the block b on, their calls being these
pub record Ends (b : Block) (calls : List Call) (before : Text) (r : Totals) (after : Text) : Type 0 where
  pub text : Writes before (events_text (event_lines (view_of b) 1 calls)) events_room after
  pub moves : r.moves ≡ total_of (events_of (view_of b) calls)
  pub bound : r.bound ≡ bound_of (table_of b.tasks.table) (events_of (view_of b) calls)
