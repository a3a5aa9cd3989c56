-- What promotion in place asks, and does with the rules' lists (the rules' specs/Promotion).
use Rattle.std.specs.Prelude.{ℕ, suc, ◌-◌, ◌≤◌, ◌≡◌, List, [], ◌∷◌, ltb, length, Option, None, Some}
use Rattle.laws.specs.Words.{pick, In}
use Rattle.rules.specs.Table.{most}
use Rattle.rules.specs.Promotion.{drained, promoted, leaving, leaving_by}
use Rattle.table.specs.declared.Level.{Level}
use Rattle.table.specs.Stored.{table_of}
use Rattle.lists.specs.declared.Lists.{Lists}
use Rattle.lists.specs.Links.{Numbered, Stores}
use Rattle.jobs.specs.declared.Job.{Job}
use Rattle.jobs.specs.declared.Tasks.{Tasks}
use Rattle.jobs.specs.Kept.{Levelled}
use Rattle.ready.specs.declared.promotion.Promoted.{Promoted}

-- ---- one job, and the front job of a list

-- the level that a job at level l leaves it for, when its level is now `to`; nothing where it stays
abbrev pub goes_to : ℕ → ℕ → Option Level
goes_to l to = pick (ltb to l) (Some (record { 0 = to })) None

abbrev pub front_goes : (ℕ → ℕ) → ℕ → List ℕ → Option Level
front_goes new l [] = None
front_goes new l (x ∷ q) = goes_to l (new x)

-- ---- what is asked

-- the job of task k waits at level l, one that a job can leave
pub record Leaves (tasks : Tasks) (jobs : List Job) (time l k : ℕ) : Type 0 where
  pub known : Levelled tasks jobs time k
  pub low : 2 ≤ l
  pub high : l ≤ suc (length (table_of tasks.table))

-- each who waits has a level at this time, and none waits above the levels of the table
pub record Promotable (tasks : Tasks) (jobs : List Job) (time : ℕ) (lists : Lists) : Type 0 where
  pub ls : ℕ → List ℕ
  pub stores : Stores lists ls
  pub known : (l k : ℕ) → In k (ls l) → Levelled tasks jobs time k
  pub high : (l k : ℕ) → In k (ls l) → l ≤ suc (length (table_of tasks.table))

-- .. and l is a level that a job can leave
pub record Drainable (tasks : Tasks) (jobs : List Job) (time : ℕ) (lists : Lists) (l : ℕ) : Type 0 where
  pub all : Promotable tasks jobs time lists
  pub level : Numbered l
  pub low : 2 ≤ l

-- ---- what is done

-- the list of level l has been drained, and so many jobs have left it
pub record DrainedTo (new : ℕ → ℕ) (l : ℕ) (ls : ℕ → List ℕ) (r : Promoted Lists) : Type 0 where
  pub stores : Stores r.now (drained new l ls (ls l))
  pub moves : r.moves ≡ leaving new l (ls l)

-- all lists from level 2 up have been drained, and so many jobs have left them
pub record PromotedTo (new : ℕ → ℕ) (ls : ℕ → List ℕ) (r : Promoted Lists) : Type 0 where
  pub stores : Stores r.now (promoted new (most - 1) 2 ls)
  pub moves : r.moves ≡ leaving_by new (most - 1) 2 ls
