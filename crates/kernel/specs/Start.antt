-- What start gives back.
use Rattle.std.specs.Prelude.{ℕ, suc, ◌-◌, ◌≡◌, [], ◌++◌, replicate, None}
use Rattle.rules.specs.Numbers.{Verdict, Passed, Failed}
use Rattle.rules.specs.Table.{most, verdict_of}
use Rattle.rules.specs.Levels.{rising_of}
use Rattle.table.specs.declared.Table.{Table}
use Rattle.table.specs.Stored.{no_entry, table_of, verdict_in}
use Rattle.lists.specs.Links.{Stores}
use Rattle.jobs.specs.declared.Tasks.{Tasks}
use Rattle.jobs.specs.Kept.{no_job}
use Rattle.kernel.specs.declared.Block.{Block}
use Rattle.kernel.specs.declared.start.Started.{Started}

-- a block where nothing has happened yet: no job, nobody runs, all lists empty, the clock at 0
pub record Fresh (tasks : Tasks) (reading : ℕ) (b : Block) : Type 0 where
  pub held : b.tasks ≡ tasks
  pub jobs : b.jobs ≡ replicate (suc most) no_job
  pub running : b.ready.running ≡ None
  pub lists : Stores b.ready.lists (λ l. [])
  pub now : b.now ≡ record { clock = 0; reading = reading }

-- "The block also holds the table's deadlines in rising order, laid down at start"
abbrev pub laid_down : Table → Tasks
laid_down table = record { table = table; rising = rising_of (table_of table) ++ replicate (most - table.count) 0 }

-- "every field is zero"
abbrev pub no_tasks : Tasks
no_tasks = record { table = record { count = 0; tasks = replicate most no_entry }; rising = replicate most 0 }

-- "A refused start hands back, with its number, a block whose every field is zero or nobody"
abbrev pub StartsBy : Table → ℕ → Block → Verdict → Type 0
StartsBy table reading b Passed = Fresh (laid_down table) reading b
StartsBy table reading b (Failed r) = Fresh no_tasks 0 b

pub record Starts (table : Table) (reading : ℕ) (r : Started) : Type 0 where
  pub verdict : verdict_in r.verdict ≡ verdict_of (table_of table)
  pub block : StartsBy table reading r.block (verdict_of (table_of table))
