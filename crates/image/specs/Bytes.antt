-- A block as bytes, part by part, and the block that bytes say. Theorem `block_kept`: of a block's own bytes it is that block.
use Rattle.std.specs.Prelude.{ℕ, zero, suc, ◌+◌, ◌*◌, ◌/◌, ◌%◌, ◌^◌, ◌<◌, ◌≡◌, Bool, not, List, [], ◌∷◌, ◌++◌, eqb, length, get_or, Option, None, Some}
use Rattle.laws.specs.Words.{pick, digit, All}
use Rattle.rules.specs.Table.{most}
use Rattle.rules.specs.Records.{word}
use Rattle.table.specs.declared.Task.{Task}
use Rattle.table.specs.declared.TaskNo.{TaskNo}
use Rattle.lists.specs.declared.Stored.{Stored}
use Rattle.lists.specs.Answers.{stored_of, lists_of}
use Rattle.jobs.specs.declared.Job.{Job}
use Rattle.jobs.specs.declared.Tasks.{Tasks}
use Rattle.ready.specs.declared.Ready.{Ready}
use Rattle.kernel.specs.declared.Now.{Now}
use Rattle.kernel.specs.declared.Block.{Block}

-- ---- a block's bytes

-- a number in k bytes, the lowest first
unfoldable pub little : ℕ → ℕ → List ℕ
little zero n = []
little (suc k) n = n % 256 ∷ little k (n / 256)

-- those of each of an array, one behind the other
unfoldable pub all_bytes : {X : Type 0} → (X → List ℕ) → List X → List ℕ
all_bytes bytes [] = []
all_bytes bytes (x ∷ xs) = bytes x ++ all_bytes bytes xs

abbrev pub task_bytes : Task → List ℕ
task_bytes x = little 4 x.c ++ little 4 x.d ++ little 4 x.t

-- whether there is one, and it; `free` where there is none
abbrev pub option_bytes : {X : Type 0} → (X → List ℕ) → X → Option X → List ℕ
option_bytes bytes free None = 0 ∷ bytes free
option_bytes bytes free (Some x) = 1 ∷ bytes x

-- whether there was a release, and its time
abbrev pub last_bytes : Option ℕ → List ℕ
last_bytes None = 0 ∷ little 8 0
last_bytes (Some time) = 1 ∷ little 8 time

abbrev pub job_bytes : Job → List ℕ
job_bytes x = digit x.active ∷ last_bytes x.last

abbrev pub who_bytes : Option TaskNo → List ℕ
who_bytes None = 0 ∷ 0 ∷ []
who_bytes (Some k) = 1 ∷ k.0 ∷ []

abbrev pub task_no_bytes : TaskNo → List ℕ
task_no_bytes k = k.0 ∷ []

-- the count, the table, and its deadlines in rising order
abbrev pub tasks_bytes : Tasks → List ℕ
tasks_bytes x = little 8 x.table.count ++ all_bytes task_bytes x.table.tasks ++ all_bytes (little 4) x.rising

abbrev pub stored_bytes : Stored → List ℕ
stored_bytes x = all_bytes task_no_bytes x.first ++ all_bytes task_no_bytes x.last ++ all_bytes task_no_bytes x.next ++ little 8 x.map

abbrev pub ready_bytes : Ready → List ℕ
ready_bytes x = who_bytes x.running ++ stored_bytes (stored_of x.lists)

abbrev pub now_bytes : Now → List ℕ
now_bytes x = little 8 x.clock ++ little 4 x.reading

-- all parts, in their order
unfoldable pub bytes_of : Block → List ℕ
bytes_of b = tasks_bytes b.tasks ++ all_bytes job_bytes b.jobs ++ ready_bytes b.ready ++ now_bytes b.now

-- ---- the block of some bytes

abbrev pub long_word : List ℕ → ℕ → ℕ
long_word s at = word s at + 4294967296 * word s (at + 4)

-- so many from a place on, each so far behind the one before it
unfoldable pub all_from : {X : Type 0} → (ℕ → X) → ℕ → ℕ → ℕ → List X
all_from read width at zero = []
all_from read width at (suc n) = read at ∷ all_from read width (at + width) n

abbrev pub task_from : List ℕ → ℕ → Task
task_from s at = record { c = word s at; d = word s (at + 4); t = word s (at + 8) }

-- a byte that is not 0 says yes
abbrev pub says : List ℕ → ℕ → Bool
says s at = not (eqb (get_or s at 0) 0)

abbrev pub option_from : {X : Type 0} → (List ℕ → ℕ → X) → List ℕ → ℕ → Option X
option_from read s at = pick (says s at) (Some (read s (at + 1))) None

abbrev pub last_from : List ℕ → ℕ → Option ℕ
last_from s at = pick (says s at) (Some (long_word s (at + 1))) None

abbrev pub job_from : List ℕ → ℕ → Job
job_from s at = record { active = says s at; last = last_from s (at + 1) }

abbrev pub task_no_from : List ℕ → ℕ → TaskNo
task_no_from s at = record { 0 = get_or s at 0 }

abbrev pub who_from : List ℕ → ℕ → Option TaskNo
who_from s at = pick (says s at) (Some (task_no_from s (at + 1))) None

abbrev pub tasks_from : List ℕ → ℕ → Tasks
tasks_from s at =
    record {
      table = record { count = long_word s at; tasks = all_from (task_from s) 12 (at + 8) most };
      rising = all_from (word s) 4 (at + (8 + 12 * most)) most;
    }

abbrev pub stored_from : List ℕ → ℕ → Stored
stored_from s at =
    record {
      first = all_from (task_no_from s) 1 at (most + 1);
      last = all_from (task_no_from s) 1 (at + (most + 1)) (most + 1);
      next = all_from (task_no_from s) 1 (at + 2 * (most + 1)) (most + 1);
      map = long_word s (at + 3 * (most + 1));
    }

abbrev pub ready_from : List ℕ → ℕ → Ready
ready_from s at = record { running = who_from s at; lists = lists_of (stored_from s (at + 2)) }

abbrev pub now_from : List ℕ → ℕ → Now
now_from s at = record { clock = long_word s at; reading = word s (at + 8) }

-- how many bytes the tasks have, the arrays and the map, and who runs with them
abbrev pub tasks_size : ℕ
tasks_size = 8 + 12 * most + 4 * most

abbrev pub stored_size : ℕ
stored_size = 3 * (most + 1) + 8

abbrev pub ready_size : ℕ
ready_size = 2 + stored_size

-- where the parts of a block begin; the tasks, at its front
abbrev pub jobs_place : ℕ
jobs_place = tasks_size

abbrev pub ready_place : ℕ
ready_place = jobs_place + 10 * (most + 1)

abbrev pub now_place : ℕ
now_place = ready_place + ready_size

-- how many bytes a block has
abbrev pub size : ℕ
size = now_place + 12

unfoldable pub block_in : List ℕ → Block
block_in s =
    record {
      tasks = tasks_from s 0;
      jobs = all_from (job_from s) 10 jobs_place (most + 1);
      ready = ready_from s ready_place;
      now = now_from s now_place;
    }

-- ---- what the types say of a block

-- a number that has its place in k bytes
abbrev pub Small : ℕ → ℕ → Type 0
Small k n = n < 256 ^ k

-- an array of n, each as P says
pub record Array {X : Type 0} (n : ℕ) (P : X → Type 0) (xs : List X) : Type 0 where
  pub long : length xs ≡ n
  pub each : All P xs

abbrev pub TaskFits : Task → Type 0
TaskFits x = Small 4 x.c × Small 4 x.d × Small 4 x.t

abbrev pub LastFits : Option ℕ → Type 0
LastFits None = Unit {0}
LastFits (Some time) = Small 8 time

abbrev pub JobFits : Job → Type 0
JobFits x = LastFits x.last

abbrev pub TaskNoFits : TaskNo → Type 0
TaskNoFits k = Small 1 k.0

abbrev pub WhoFits : Option TaskNo → Type 0
WhoFits None = Unit {0}
WhoFits (Some k) = TaskNoFits k

pub record TasksFit (x : Tasks) : Type 0 where
  pub count : Small 8 x.table.count
  pub tasks : Array most TaskFits x.table.tasks
  pub rising : Array most (Small 4) x.rising

pub record StoredFits (x : Stored) : Type 0 where
  pub first : Array (most + 1) TaskNoFits x.first
  pub last : Array (most + 1) TaskNoFits x.last
  pub next : Array (most + 1) TaskNoFits x.next
  pub map : Small 8 x.map

pub record Fits (b : Block) : Type 0 where
  pub tasks : TasksFit b.tasks
  pub jobs : Array (most + 1) JobFits b.jobs
  pub running : WhoFits b.ready.running
  pub stored : StoredFits (stored_of b.ready.lists)
  pub clock : Small 8 b.now.clock
  pub reading : Small 4 b.now.reading
