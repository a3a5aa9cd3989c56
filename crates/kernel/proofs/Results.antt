-- Two results that a contract allows are equal. Assumes nothing.
use mathlib.Core.Path.{◌≡◌, refl, sym, ap, ap₂, ◌∙◌}
use mathlib.Core.Bool.{Bool, true, false}
use mathlib.Core.List.{List}
use Prim.Native.Nat.{ℕ}
use lib.Dec.{eqb}
use Rattle.laws.specs.Words.{pick}
use Rattle.laws.proofs.Bools.{clash}
use Rattle.rules.specs.Table.{is_task}
use Rattle.rules.specs.Numbers as Numbers
use Rattle.rules.specs.Calls as Calls
use Rattle.rules.specs.Listing as Rules
use Rattle.table.specs.Stored.{table_of}
use Rattle.levels.specs.declared.Plan.{Plan}
use Rattle.lists.specs.Answers.{who_in}
use Rattle.lists.proofs.Results.{who_one}
use Rattle.jobs.specs.declared.Tasks.{Tasks}
use Rattle.kernel.specs.declared.Block.{Block}
use Rattle.kernel.specs.declared.Called.{Called}
use Rattle.kernel.specs.declared.Refusal.{Refusal}
use Rattle.kernel.specs.declared.Accepted.{Accepted}
use Rattle.kernel.specs.Block.{Sizes, SameTasks}
use Rattle.kernel.specs.Answers.{refusal_in, margin_in, answer_in}
use Rattle.clock.specs.Advance.{Advanced}
use Rattle.kernel.specs.Tests.{checked_in}
use Rattle.kernel.specs.Calls.{Does, Gives, GivesBy}
use Rattle.kernel.specs.Asks.{listed_in, GivesListing, PlansAs, GivesPlan}
use Rattle.kernel.proofs.Views.{blocks_one}
use Rattle.kernel.proofs.Fifteen.{both_15}
use Rattle.std.specs.Prelude.{ℤ, Err, None, Ok, Option, Result, Some}

-- ---- what an answer says determines it

-- the refusal of a call with this number
refusal_by : ℕ → Refusal
refusal_by n =
    pick (eqb n 5) Refusal.CounterWentBack (pick (eqb n 6) Refusal.ClockFull (pick (eqb n 7) Refusal.NoSuchTask
    (pick (eqb n 8) Refusal.TaskActive (pick (eqb n 9) Refusal.TooSoon (pick (eqb n 10) Refusal.NotRunning (pick (eqb n 11) Refusal.BufferTooShort Refusal.NotWhole))))))

refusal_same : (q : Refusal) → refusal_by (Numbers.number_of (refusal_in q)) ≡ q
unfolding refusal_by
refusal_same Refusal.NotWhole = refl
refusal_same Refusal.CounterWentBack = refl
refusal_same Refusal.ClockFull = refl
refusal_same Refusal.NoSuchTask = refl
refusal_same Refusal.TaskActive = refl
refusal_same Refusal.TooSoon = refl
refusal_same Refusal.NotRunning = refl
refusal_same Refusal.BufferTooShort = refl

-- the paper's number determines it
pub refusal_one : (p q : Refusal) → Numbers.number_of (refusal_in p) ≡ Numbers.number_of (refusal_in q) → p ≡ q
refusal_one p q e = sym (refusal_same p) ∙ ap refusal_by e ∙ refusal_same q

-- a margin is told by what it says
pub margin_one : (a b : Option ℤ) → margin_in a ≡ margin_in b → a ≡ b
margin_one None None e = refl
margin_one None (Some t) e = clash cc
margin_one (Some t) None e = clash cc
margin_one (Some t) (Some u) e = cc

pub answer_one : (a b : Result Accepted Refusal) → answer_in a ≡ answer_in b → a ≡ b
answer_one (Ok a) (Ok b) e =
    let same_runs : who_in a.running ≡ who_in b.running = cc in
    let same-moves : a.moves ≡ b.moves = cc in
    let same-margin : margin_in a.margin ≡ margin_in b.margin = cc in
    λ i. Ok (record { running = who_one a.running b.running same_runs i; moves = same-moves i; margin = margin_one a.margin b.margin same-margin i })
answer_one (Ok a) (Err q) e = clash cc
answer_one (Err q) (Ok a) e = clash cc
answer_one (Err p) (Err q) e =
    let same : refusal_in p ≡ refusal_in q = cc in
    ap Err (refusal_one p q (ap Numbers.number_of same))

-- 0 where the tests passed, 1 where one failed
abbrev failed : Numbers.Verdict → ℕ
failed Numbers.Passed = 0
failed (Numbers.Failed r) = 1

-- what the tests found
pub checked_one : (a b : Result ℕ Refusal) → checked_in a ≡ checked_in b → a ≡ b
checked_one (Ok t) (Ok u) e = ap (λ (x : Advanced). Ok x.time) e
checked_one (Ok t) (Err q) e = clash (ap (λ (x : Advanced). failed x.verdict) e)
checked_one (Err p) (Ok u) e = clash (sym (ap (λ (x : Advanced). failed x.verdict) e))
checked_one (Err p) (Err q) e = ap Err (refusal_one p q (ap (λ (x : Advanced). Numbers.number_in x.verdict) e))

-- ---- the calls

module _ (b : Block) (c : Calls.Call) (r x : Called) (long : Sizes r.block) (wide : Sizes x.block) where
  -- of a whole block
  pub does_one : Does b c r → Does b c x → x ≡ r
  does_one d e =
      ap₂ (λ (a : Result Accepted Refusal) (y : Block). record { answer = a; block = y }) (answer_one x.answer r.answer (e.answer ∙ sym d.answer))
      (blocks_one long wide d.whole e.whole both (e.view ∙ sym d.view))
    where
      both : SameTasks r.block x.block
      both =
          record {
            tasks = e.same.tasks ∙ sym d.same.tasks;
            free =
                λ k f. let g : is_task (table_of b.tasks.table) k ≡ false = ap (λ (t : Tasks). is_task (table_of t.table) k) (sym d.same.tasks) ∙ f in
                e.same.free k g ∙ sym (d.same.free k g);
          }

  -- of any
  pub gives_one : Gives b c r → Gives b c x → x ≡ r
  gives_one = both_15 (x ≡ r) go
    where
      go : (w : Bool) → GivesBy b c r w → GivesBy b c x w → x ≡ r
      go true d e = does_one d e
      go false d e = e ∙ sym d

-- ---- the listing and the plan

-- the answer with this number, and so many waiting
listed_by : ℕ → ℕ → Result ℕ Refusal
listed_by number n = pick (eqb number 0) (Ok n) (Err (refusal_by number))

listed_same : (r : Result ℕ Refusal) (buffer : List ℕ) → listed_by (Numbers.number_in (listed_in r buffer).verdict) (listed_in r buffer).waiting ≡ r
unfolding listed_by
listed_same (Ok n) buffer = refl
listed_same (Err q) buffer = refused q (refusal_same q)
  where
    refused : (q : Refusal) → refusal_by (Numbers.number_of (refusal_in q)) ≡ q → listed_by (Numbers.number_of (refusal_in q)) 0 ≡ Err q
    refused Refusal.NotWhole e = ap Err e
    refused Refusal.CounterWentBack e = ap Err e
    refused Refusal.ClockFull e = ap Err e
    refused Refusal.NoSuchTask e = ap Err e
    refused Refusal.TaskActive e = ap Err e
    refused Refusal.TooSoon e = ap Err e
    refused Refusal.NotRunning e = ap Err e
    refused Refusal.BufferTooShort e = ap Err e

-- the buffer is what an answer says that it is
pub buffer_is : (r : Result ℕ Refusal) (buffer : List ℕ) → (listed_in r buffer).buffer ≡ buffer
buffer_is (Ok n) buffer = refl
buffer_is (Err q) buffer = refl

-- of what they say there is one answer and one buffer
pub listed_one : (r x : Result ℕ Refusal) (after last : List ℕ) → listed_in x last ≡ listed_in r after → (x ≡ r) × (last ≡ after)
listed_one r x after last e = (
  sym (listed_same x last) ∙ ap (λ (y : Rules.ListingAnswer). listed_by (Numbers.number_in y.verdict) y.waiting) e ∙ listed_same r after,
  sym (buffer_is x last) ∙ ap (λ (y : Rules.ListingAnswer). y.buffer) e ∙ buffer_is r after,
)

pub listing_one : (b : Block) (before : List ℕ) (r x : Result ℕ Refusal) (after last : List ℕ) → GivesListing b before r after → GivesListing b before x last → (x ≡ r) × (last ≡ after)
listing_one b before r x after last = both_15 ((x ≡ r) × (last ≡ after)) (λ w p q. listed_one r x after last (q ∙ sym p))

pub plans_one : (y : Calls.PlanAnswer) (r x : Result Plan Refusal) → PlansAs y r → PlansAs y x → x ≡ r
plans_one y (Ok p) (Ok q) a b = ap Ok (b.plan ∙ sym a.plan)
plans_one y (Ok p) (Err s) a b = let e = a.answer ∙ sym b.answer in clash cc
plans_one y (Err r) (Ok q) a b = let e = a.answer ∙ sym b.answer in clash cc
plans_one y (Err r) (Err s) a b = ap Err (refusal_one s r (ap Numbers.number_in (b.answer ∙ sym a.answer)))

pub plan_one : (b : Block) (k : ℕ) (r x : Result Plan Refusal) → GivesPlan b k r → GivesPlan b k x → x ≡ r
plan_one b k r x = both_15 (x ≡ r) (λ w p q. plans_one _ r x p q)
