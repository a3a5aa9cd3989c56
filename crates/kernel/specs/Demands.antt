-- THE OWNER'S THREE DEMANDS, of the block and its functions; proofs/Demands.antt proves them. The rules' specs/Demands says how to read
-- such statements, and what Exactly and Demand2 are; the rules' specs/Refusals says what CallNumbers are.
--
-- `Starts`, `Gives`, `GivesListing` and `GivesPlan` are the contracts of start, of the calls release, done and clock, of listing and of plan:
-- what is said here of every result that they allow holds of the one that the code gives.
use Rattle.std.specs.Prelude.{ℕ, ◌*◌, ◌≤◌, ◌<◌, ◌≡◌, Bool, not, ◌↔◌, List, [], ◌∷◌, length, Result}
use Rattle.rules.specs.Numbers.{Refusal, NoSuchTask, BufferTooShort, NotWhole, Test, refuse, Passed, Failed}
use Rattle.rules.specs.Table.{most, table_tests, verdict_of}
use Rattle.rules.specs.State.{Running, waiting}
use Rattle.rules.specs.Calls.{Call, Answer, Accepted, Refused, Margin, task_test, tests_of, step_of}
use Rattle.rules.specs.Listing.{listing_tests}
use Rattle.rules.specs.Refusals.{InTable, TableNumbers, CallNumbers}
use Rattle.rules.specs.Histories.{Event, Leads, Seen, seen_at_start, seen_after, falls_of, total_of, bound_of}
use Rattle.rules.specs.Demands as Rules
use Rattle.table.specs.declared.Table.{Table}
use Rattle.table.specs.Stored.{table_of, verdict_in}
use Rattle.levels.specs.declared.Plan.{Plan}
use Rattle.kernel.specs.declared.Block.{Block}
use Rattle.kernel.specs.declared.Called.{Called}
use Rattle.kernel.specs.declared.Refusal.TheVariants as Code
use Rattle.kernel.specs.declared.start.Started.{Started}
use Rattle.kernel.specs.declared.Refusal as Given
use Rattle.kernel.specs.Block.{view_of, Whole, Test15}
use Rattle.kernel.specs.Answers.{answer_in}
use Rattle.kernel.specs.Calls.{refused_as, Gives}
use Rattle.kernel.specs.Start.{Starts}
use Rattle.kernel.specs.Asks.{listed_in, GivesListing, asked_in, GivesPlan}

-- ---- 1. "Every task table, clock reading and event is answered. Bad input gets the refusal number that our rules name, given exactly
-- when they say so. A refused call changes neither the kernel block nor one byte of a lent buffer."

-- the answer that a call gave, as the rules' answer
abbrev pub said : Called → Answer
said r = answer_in r.answer

-- tests, with 15 ahead of them
abbrev pub with15 : List Test → Bool → List Test
with15 tests whole = refuse NotWhole (not whole) ∷ tests

-- of any table, and any reading
pub record Demand1Start (table : Table) (r : Started) : Type 0 where
  pub exactly : Rules.Exactly (table_tests (table_of table)) (verdict_in r.verdict)
  pub numbers : TableNumbers (table_of table)
  -- "any call on it gives 15"
  pub nothing : (q : Refusal) → verdict_in r.verdict ≡ Failed q → (c : Call) (x : Called) → Gives r.block c x → x ≡ refused_as Code.NotWhole r.block

-- of any block, whole or not
pub record Demand1 (b : Block) : Type 0 where
  -- "Calls test 15, 5, 6, 7, then 8 and 9, or 10. The clock call stops after 6."
  pub calls : (c : Call) (r : Called) → Gives b c r → Test15 b (λ whole. Rules.Exactly (with15 (tests_of (view_of b) c) whole) (Rules.answer_verdict (said r)))
  -- "the block is not whole"
  pub number_15 : (c : Call) (r : Called) → Gives b c r → (said r ≡ Refused NotWhole) ↔ (Whole b → ⊥)
  pub unchanged : (c : Call) (r : Called) → Gives b c r → (q : Refusal) → said r ≡ Refused q → r.block ≡ b
  -- "The listing tests 15, then 11"
  pub listing : (before : List ℕ) (r : Result ℕ Given.Refusal) (after : List ℕ) → GivesListing b before r after
      → Test15 b (λ whole. Rules.Exactly (with15 (listing_tests (view_of b) before) whole) (listed_in r after).verdict)
  pub listing_15 : (before : List ℕ) (r : Result ℕ Given.Refusal) (after : List ℕ) → GivesListing b before r after → ((listed_in r after).verdict ≡ Failed NotWhole) ↔ (Whole b → ⊥)
  -- "buffer too short"
  pub listing_11 : (before : List ℕ) (r : Result ℕ Given.Refusal) (after : List ℕ) → GivesListing b before r after
      → ((listed_in r after).verdict ≡ Failed BufferTooShort) ↔ (Whole b × (length before < 2 * length (waiting (view_of b))))
  pub unwritten : (before : List ℕ) (r : Result ℕ Given.Refusal) (after : List ℕ) → GivesListing b before r after → (q : Refusal) → (listed_in r after).verdict ≡ Failed q → after ≡ before
  -- "a task's plan, asked of a block, 15, then 7"
  pub plan : (k : ℕ) (r : Result Plan Given.Refusal) → GivesPlan b k r → Test15 b (λ whole. Rules.Exactly (with15 (task_test (view_of b).table k ∷ []) whole) (asked_in r))
  pub plan_15 : (k : ℕ) (r : Result Plan Given.Refusal) → GivesPlan b k r → (asked_in r ≡ Failed NotWhole) ↔ (Whole b → ⊥)
  -- "task 0 or above the table's count"
  pub plan_7 : (k : ℕ) (r : Result Plan Given.Refusal) → GivesPlan b k r → (asked_in r ≡ Failed NoSuchTask) ↔ (Whole b × (InTable (view_of b).table k → ⊥))

-- ---- a history: start took a sound table and a reading. Then came calls, any list of them, each on the block that the one before gave
-- back, refused or not. They were answered as `events` tells, and left the block `b`.

pub record History (table : Table) (reading : ℕ) (calls : List Call) (events : List Event) (b : Block) : Type 0 where
  -- (the array has as many places as its type says)
  pub places : length table.tasks ≡ most
  pub started : Started
  pub starts : Starts table reading started
  pub sound : verdict_of (table_of table) ≡ Passed
  pub leads : Leads Gives said (λ r. r.block) started.block calls events b

-- what the calls and answers alone tell
abbrev pub seen_in : Table → ℕ → List Event → Seen
seen_in table reading events = seen_after (table_of table) (seen_at_start reading) events

-- of the block b that a history left, and of any call c on it
pub record Demands (table : Table) (reading : ℕ) (events : List Event) (b : Block) : Type 0 where
  -- 1. The block is whole, so 15 never comes: each answer is that of the rules, and each number is given exactly when its row says so
  pub demand_1 : Demand1 b
  pub whole : Whole b
  pub never_15 : (c : Call) (r : Called) → Gives b c r → said r ≡ Refused NotWhole → ⊥
  pub answers : (c : Call) (r : Called) → Gives b c r → said r ≡ (step_of (view_of b) c).answer
  pub numbers : CallNumbers (view_of b)
  -- 2. "After every accepted call since start, the running job is the unfinished job with the earliest absolute deadline, and of equals the
  -- one whose release call came first. Every other unfinished job waits exactly once, in the list of the level that the published rule
  -- gives it at that moment, each list in that same order."
  pub demand_2 : Rules.Demand2 (table_of table) (view_of b) (seen_in table reading events)
  -- and an accepted answer names who runs then
  pub named : (c : Call) (r : Called) → Gives b c r → (x : Running) (m : ℕ) (g : Margin) → said r ≡ Accepted x m g → (view_of r.block).ready.running ≡ x
  -- 3. "From a start, through any sequence of calls, refused ones included: each accepted call reports as moves exactly the number of jobs,
  -- waiting when it came, whose level is lower at the new time than at the old. Refused calls report none. The moves reported since the
  -- start never total more than the sum, over accepted releases, of the released task's first level less one."
  pub moves : (c : Call) (r : Called) → Gives b c r → (x : Running) (m : ℕ) (g : Margin) → said r ≡ Accepted x m g → m ≡ falls_of (table_of table) (seen_in table reading events) c
  pub bound : total_of events ≤ bound_of (table_of table) events
