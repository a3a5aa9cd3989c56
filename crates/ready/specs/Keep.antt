-- Who runs and who waits, as the rules' `Ready`, and what is asked of it.
use Rattle.std.specs.Prelude.{ℕ, ◌-◌, ◌≤◌, ◌≡◌, List}
use Rattle.rules.specs.Table.{most}
use Rattle.rules.specs.State as Rules
use Rattle.rules.specs.Promotion.{promoted, leaving_by}
use Rattle.lists.specs.Links.{Absent, Stores}
use Rattle.lists.specs.Answers.{who_in}
use Rattle.lists.specs.Held.{list_at}
use Rattle.jobs.specs.declared.Job.{Job}
use Rattle.jobs.specs.declared.Tasks.{Tasks}
use Rattle.jobs.specs.Kept.{levels_at, Levelled}
use Rattle.ready.specs.declared.Ready.{Ready}
use Rattle.ready.specs.declared.promotion.Promoted.{Promoted}

-- what is kept, where the arrays and the map store lists
abbrev pub ready_in : Ready → Rules.Ready
ready_in r = record { running = who_in r.running; lists = list_at r.lists }

-- it is x that is kept
pub record Keeps (r : Ready) (x : Rules.Ready) : Type 0 where
  pub running : who_in r.running ≡ x.running
  pub stores : Stores r.lists x.lists

-- whatever a keeps, b keeps what f makes of it
abbrev pub Becomes : Ready → (Rules.Ready → Rules.Ready) → Ready → Type 0
Becomes a f b = (x : Rules.Ready) → Keeps a x → Keeps b (f x)

-- whatever is kept, its lists are promoted, and as many jobs have moved as left a list
pub record Relevels (new : ℕ → ℕ) (r : Ready) (after : Promoted Ready) : Type 0 where
  pub keeps : Becomes r (λ x. record { running = x.running; lists = promoted new (most - 1) 2 x.lists }) after.now
  pub moves : (x : Rules.Ready) → Keeps r x → after.moves ≡ leaving_by new (most - 1) 2 x.lists

-- there is something that is kept
pub record Keeping (r : Ready) : Type 0 where
  pub ready : Rules.Ready
  pub keeps : Keeps r ready

-- the job of task k waits nowhere, and has a level whose list it may enter
pub record MayWait (tasks : Tasks) (jobs : List Job) (time : ℕ) (lists : ℕ → List ℕ) (k : ℕ) : Type 0 where
  pub known : Levelled tasks jobs time k
  pub level : levels_at tasks jobs time k ≤ most
  pub absent : Absent k lists

-- the job of task k, which is released, may wait, and so may the running one
pub record Enterable (r : Ready) (tasks : Tasks) (jobs : List Job) (time k : ℕ) : Type 0 where
  pub ready : Rules.Ready
  pub keeps : Keeps r ready
  pub task : MayWait tasks jobs time ready.lists k
  pub runner : (j : ℕ) → ready.running ≡ Rules.One j → MayWait tasks jobs time ready.lists j
