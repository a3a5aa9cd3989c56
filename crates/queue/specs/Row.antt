-- Who runs and who waits, by the bytes of their listing: of the i-th that waits, byte 2i is its level and the next its task.
use Rattle.std.specs.Prelude.{ℕ, zero, suc, ◌+◌, ◌*◌, ◌≤◌, ◌<◌, ◌≡◌, Bool, true, List, [], ◌∷◌, ◌++◌, get_or}
use Rattle.rules.specs.Table.{most, is_task}
use Rattle.rules.specs.State.{MayLead}
use Rattle.table.specs.declared.Table.{Table}
use Rattle.table.specs.Stored.{table_of}
use Rattle.lists.specs.Marks.{none, seen_at, marked}
use Rattle.jobs.specs.declared.Job.{Job}
use Rattle.jobs.specs.declared.Tasks.{Tasks}
use Rattle.jobs.specs.Kept.{job_at, released_in, levels_at, Dated}

abbrev pub byte_level : List ℕ → ℕ → ℕ
byte_level bytes i = get_or bytes (2 * i) 0

abbrev pub byte_task : List ℕ → ℕ → ℕ
byte_task bytes i = get_or bytes (2 * i + 1) 0

-- the tasks of the first n
unfoldable pub row_tasks : List ℕ → ℕ → List ℕ
row_tasks bytes zero = []
row_tasks bytes (suc n) = row_tasks bytes n ++ byte_task bytes n ∷ []

-- no more wait than there are tasks
abbrev pub Few : ℕ → Type 0
Few n = n ≤ most

-- the job of task k waits in the list of level l, and that of task `first` runs
pub record WaitsRight (tasks : Tasks) (jobs : List Job) (clock first l k : ℕ) : Type 0 where
  pub task : is_task (table_of tasks.table) k ≡ true
  pub other : k ≡ first → ⊥
  pub place : levels_at tasks jobs clock k ≡ l

abbrev pub AllWait : Tasks → List Job → ℕ → ℕ → List ℕ → ℕ → Type 0
AllWait tasks jobs clock first bytes n = (i : ℕ) → i < n → WaitsRight tasks jobs clock first (byte_level bytes i) (byte_task bytes i)

-- the running job, and behind it those that wait
abbrev pub in_row : ℕ → List ℕ → ℕ → ℕ
in_row first bytes zero = first
in_row first bytes (suc i) = byte_task bytes i

-- all of them have deadlines
abbrev pub RowDated : Table → List Job → ℕ → List ℕ → ℕ → Type 0
RowDated table jobs first bytes n = (i : ℕ) → i ≤ n → Dated table jobs (in_row first bytes i)

-- each may stand ahead of the next
abbrev pub InOrder : Table → List Job → ℕ → List ℕ → ℕ → Type 0
InOrder table jobs first bytes n = (i : ℕ) → i < n → MayLead (table_of table) (released_in table jobs) (in_row first bytes i) (in_row first bytes (suc i))

-- exactly those that are marked are active
abbrev pub ActiveAs : ℕ → List Job → List Bool → Type 0
ActiveAs count jobs seen = (k : ℕ) → 1 ≤ k → k ≤ count → (job_at jobs k).active ≡ seen_at seen k

pub record RunsWhole (tasks : Tasks) (jobs : List Job) (clock first : ℕ) (bytes : List ℕ) (n : ℕ) : Type 0 where
  pub task : is_task (table_of tasks.table) first ≡ true
  pub wait : AllWait tasks jobs clock first bytes n
  pub order : InOrder tasks.table jobs first bytes n
  pub active : ActiveAs tasks.table.count jobs (marked none (first ∷ row_tasks bytes n))
