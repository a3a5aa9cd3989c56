-- What a listing and a plan that are asked of a block give back.
use Rattle.std.specs.Prelude.{ℕ, ◌≡◌, List, Result, Ok, Err, IfOk}
use Rattle.laws.specs.Words.{pick}
use Rattle.rules.specs.Numbers as Numbers
use Rattle.rules.specs.Calls as Calls
use Rattle.rules.specs.Listing as Listing
use Rattle.levels.specs.declared.Plan.{Plan}
use Rattle.levels.specs.Copy.{held}
use Rattle.kernel.specs.declared.Block.{Block}
use Rattle.kernel.specs.declared.Refusal.{Refusal}
use Rattle.kernel.specs.Block.{view_of, Test15}
use Rattle.kernel.specs.Answers.{refusal_in}

-- ---- the listing

-- what an answer says, with what the buffer holds then
abbrev pub listed_in : Result ℕ Refusal → List ℕ → Listing.ListingAnswer
listed_in (Ok n) buffer = record { verdict = Numbers.Passed; waiting = n; buffer = buffer }
listed_in (Err r) buffer = record { verdict = Numbers.Failed (refusal_in r); waiting = 0; buffer = buffer }

-- "The listing tests 15, then 11"; a refusal "writes nothing"
abbrev pub GivesListing : Block → List ℕ → Result ℕ Refusal → List ℕ → Type 0
GivesListing b before r after =
    Test15 b (λ whole. listed_in r after ≡ pick whole (Listing.listed_of (view_of b) before) (Listing.listed_by (view_of b) before (Numbers.Failed Numbers.NotWhole)))

-- ---- a task's plan

abbrev pub asked_in : Result Plan Refusal → Numbers.Verdict
asked_in (Ok plan) = Numbers.Passed
asked_in (Err r) = Numbers.Failed (refusal_in r)

-- the verdict, and the plan, stored
pub record PlansAs (x : Calls.PlanAnswer) (r : Result Plan Refusal) : Type 0 where
  pub answer : asked_in r ≡ x.verdict
  pub plan : IfOk r (λ plan. plan ≡ held x.points)

-- "a task's plan, asked of a block, 15, then 7"
abbrev pub GivesPlan : Block → ℕ → Result Plan Refusal → Type 0
GivesPlan b k r = Test15 b (λ whole. PlansAs (pick whole (Calls.planned_of (view_of b) k) (Calls.planned_by (view_of b) k (Numbers.Failed Numbers.NotWhole))) r)
