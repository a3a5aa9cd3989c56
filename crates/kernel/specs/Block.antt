-- The block: the state of the rules that it holds, when it is whole, how long its arrays are, and what no call changes in it.
use Rattle.std.specs.Prelude.{ℕ, suc, ◌≡◌, Bool, false, length}
use Rattle.laws.specs.Words.{Decides}
use Rattle.rules.specs.Table.{most, is_task}
use Rattle.rules.specs.State.{State}
use Rattle.table.specs.Stored.{table_of}
use Rattle.lists.specs.Links.{Sized}
use Rattle.jobs.specs.Kept.{job_at}
use Rattle.whole.specs.Whole as Fields
use Rattle.kernel.specs.declared.Block.{Block}

-- THE VIEW of a block: what it holds, without the forms of its storage
abbrev pub view_of : Block → State
view_of b = Fields.view_in b.tasks b.jobs b.ready b.now.clock b.now.reading

-- "A block is whole when": condition by condition in the crate whole, specs/Whole
abbrev pub Whole : Block → Type 0
Whole b = Fields.Whole b.tasks b.jobs b.ready b.now.clock

-- what the types alone say: every array is as long as its type says
pub record Sizes (b : Block) : Type 0 where
  pub tasks : length b.tasks.table.tasks ≡ most
  pub rising : length b.tasks.rising ≡ most
  pub jobs : length b.jobs ≡ suc most
  pub lists : Sized b.ready.lists

-- what no call changes: the table and its rising copy, with their free places, and the places of jobs that no task has
pub record SameTasks (a b : Block) : Type 0 where
  pub tasks : b.tasks ≡ a.tasks
  pub free : (k : ℕ) → is_task (table_of a.tasks.table) k ≡ false → job_at b.jobs k ≡ job_at a.jobs k

-- test 15, and what follows for each of its two results
pub record Test15 (b : Block) (P : Bool → Type 0) : Type 0 where
  pub whole : Bool
  pub decides : Decides whole (Whole b)
  pub then : P whole
