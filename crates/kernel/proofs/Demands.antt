-- THE DEMANDS of the block: specs/Demands says them. Assumes nothing.
use mathlib.Core.Path.{◌≡◌, refl, sym, ap, ◌∙◌, subst}
use mathlib.Core.Bool.{Bool, true, false}
use mathlib.Core.List.{List, [], ◌∷◌}
use mathlib.Core.Logic.{◌↔◌}
use Prim.Native.Nat.{ℕ}
use native.Mathlib.Omega.{arith}
use Rattle.laws.specs.Words.{pick, Decides}
use Rattle.laws.proofs.Bools.{clash}
use Rattle.rules.specs.Numbers.{Refusal, NotWhole, number_of, Test, Verdict, Failed, first_of}
use Rattle.rules.specs.State.{State}
use Rattle.rules.specs.Table.{table_tests}
use Rattle.rules.specs.Calls.{Call, start_of, Refused, task_test, tests_of, planned_by, planned_of, step_of}
use Rattle.rules.specs.Listing.{ListingAnswer, listing_tests, listed_by, listed_of}
use Rattle.rules.specs.Histories.{Event}
use Rattle.rules.specs.Demands.{Exactly, answer_verdict}
use Rattle.rules.proofs.Tables.{demand_1_table}
use Rattle.rules.proofs.Verdicts.{none_failed, as_it_is, asks_failed, exactly}
use Rattle.rules.proofs.Refusals.{call_numbers, never_15, plan_verdict, plan_number}
use Rattle.rules.proofs.Listings.{listing_verdict, demand_1_listing}
use Rattle.rules.proofs.Steps.{step_cases}
use Rattle.rules.proofs.Refinement.{Refines, leads, block_named, block_demand_2, block_moves, block_bound}
use Rattle.table.specs.declared.Table.{Table}
use Rattle.table.specs.Stored.{table_of}
use Rattle.kernel.specs.declared.Block.{Block}
use Rattle.kernel.specs.declared.Called.{Called}
use Rattle.kernel.specs.declared.start.Started.{Started}
use Rattle.kernel.specs.Start.{Starts}
use Rattle.kernel.specs.Block.{view_of, Whole, Test15}
use Rattle.kernel.specs.Calls.{Does, GivesBy, Gives}
use Rattle.kernel.proofs.Fifteen.{then_15, either_15, of_whole, of_broken}
use Rattle.kernel.proofs.Results.{buffer_is}
use Rattle.kernel.specs.Demands.{said, with15, Demand1Start, Demand1, History, Demands}
use Rattle.kernel.proofs.Starting.{start_whole, refused_start_not_whole}

-- ---- demand 1 of any block

first_15 : (tests : List Test) (w : Bool) → first_of (with15 tests w) ≡ pick w (first_of tests) (Failed NotWhole)
unfolding first_of
first_15 tests true = refl
first_15 tests false = refl

-- a verdict that is 15, or that of the other tests, is given exactly
exactly_15 : (tests : List Test) (w : Bool) (v : Verdict) → v ≡ pick w (first_of tests) (Failed NotWhole) → Exactly (with15 tests w) v
exactly_15 tests w v e = exactly (with15 tests w) v (first_15 tests w ∙ sym e)

step_verdict : (s : State) (c : Call) → answer_verdict (step_of s c).answer ≡ first_of (tests_of s c)
step_verdict s c = step_cases (λ x. answer_verdict x.answer ≡ first_of (tests_of s c)) s c (λ r e. sym e) (λ e. sym e)

-- one test gives no other number than its own
only_number : (x : Test) (q : Refusal) → first_of (x ∷ []) ≡ Failed q → number_of q ≡ number_of x.refusal
only_number x q = asks_failed (as_it_is x) [] (λ p. number_of p ≡ number_of x.refusal) q (λ _. refl) (λ _. none_failed q)

-- a row of the rules is one of what says the same
same_row : {v w x : Verdict} {B : Type 0} → v ≡ w → (w ≡ x) ↔ B → (v ≡ x) ↔ B
same_row e h = (λ a. h.0 (sym e ∙ a), λ b. e ∙ h.1 b)

module _ {b : Block} {P : Bool → Type 0} {A : Type 0} (t : Test15 b P) where
  -- what is said of every block that is not whole, and of no other
  row_15 : (P true → A → ⊥) → (P false → A) → A ↔ (Whole b → ⊥)
  row_15 f g = (λ a w. f (of_whole w t) a, λ n. g (of_broken n t))

  -- what is said of a whole block exactly when B, and of no other
  row_whole : {B : Type 0} → (P true → A ↔ B) → (P false → A → ⊥) → A ↔ (Whole b × B)
  row_whole {B} f g = (λ a. go t.whole t.decides t.then a, λ h. (f (of_whole h.0 t)).1 h.1)
    where
      go : (w : Bool) → Decides w (Whole b) → P w → A → Whole b × B
      go true d p a = (d, (f p).0 a)
      go false d p a = absurd (g p a)

pub demand_1 : (b : Block) → Demand1 b
demand_1 b =
    record {
      calls = λ c r. then_15 (called c r);
      number_15 = λ c r g. row_15 g (λ d e. never_15 s c (sym d.answer ∙ e)) (λ d. ap said d);
      unchanged = λ c r g q e. either_15 (r.block ≡ b) (same c r q e) g;
      listing =
          λ before r after. then_15 (λ w e. exactly_15 (listing_tests s before) w _ (ap (λ (x : ListingAnswer). x.verdict) e ∙ listed before w));
      listing_15 =
          λ before r after g. row_15 g (λ e v. listing_never_15 before (sym (ap (λ (x : ListingAnswer). x.verdict) e) ∙ v))
          (λ e. ap (λ (x : ListingAnswer). x.verdict) e);
      listing_11 =
          λ before r after g. row_whole g (λ e. same_row (ap (λ (x : ListingAnswer). x.verdict) e) (demand_1_listing s before).numbers.number_11)
          (λ e v. clash cc);
      unwritten = λ before r after g q v. either_15 (after ≡ before) (λ w e. sym (buffer_is r after) ∙ ap (λ (x : ListingAnswer). x.buffer) e ∙ kept before q w (sym (ap (λ (x : ListingAnswer). x.verdict) e) ∙ v)) g;
      plan = λ k r. then_15 (λ w p. exactly_15 (task_test s.table k ∷ []) w _ (p.answer ∙ planned k w));
      plan_15 = λ k r g. row_15 g (λ p v. plan_never_15 k (sym p.answer ∙ v)) (λ p. p.answer);
      plan_7 = λ k r g. row_whole g (λ p. same_row p.answer (plan_number s k).number_7_plan) (λ p v. clash cc);
    }
  where
    s : State
    s = view_of b

    called : (c : Call) (r : Called) (w : Bool) → GivesBy b c r w → Exactly (with15 (tests_of s c) w) (answer_verdict (said r))
    called c r true g = exactly_15 (tests_of s c) true _ (ap answer_verdict g.answer ∙ step_verdict s c)
    called c r false g = exactly_15 (tests_of s c) false _ (ap (λ (x : Called). answer_verdict (said x)) g)

    same : (c : Call) (r : Called) (q : Refusal) → said r ≡ Refused q → (w : Bool) → GivesBy b c r w → r.block ≡ b
    same c r q e true g = g.refused q e
    same c r q e false g = ap (λ (x : Called). x.block) g

    listed : (before : List ℕ) (w : Bool) → (pick w (listed_of s before) (listed_by s before (Failed NotWhole))).verdict ≡ pick w (first_of (listing_tests s before)) (Failed NotWhole)
    listed before true = sym (listing_verdict s before)
    listed before false = refl

    kept : (before : List ℕ) (q : Refusal) (w : Bool) → (pick w (listed_of s before) (listed_by s before (Failed NotWhole))).verdict ≡ Failed q
        → (pick w (listed_of s before) (listed_by s before (Failed NotWhole))).buffer ≡ before
    kept before q true v = (demand_1_listing s before).unchanged q v
    kept before q false v = refl

    -- of a whole block, a listing and a plan never get 15
    listing_never_15 : (before : List ℕ) → (listed_of s before).verdict ≡ Failed NotWhole → ⊥
    listing_never_15 before v = omega (arith, only_number _ NotWhole (listing_verdict s before ∙ v))

    plan_never_15 : (k : ℕ) → (planned_of s k).verdict ≡ Failed NotWhole → ⊥
    plan_never_15 k v = omega (arith, only_number _ NotWhole (sym (plan_verdict s k) ∙ v))

    planned : (k : ℕ) (w : Bool) → (pick w (planned_of s k) (planned_by s k (Failed NotWhole))).verdict ≡ pick w (first_of (task_test s.table k ∷ [])) (Failed NotWhole)
    planned k true = plan_verdict s k
    planned k false = refl

-- ---- all demands, of every history

refines : (b : Block) (c : Call) (r : Called) → Whole b → Gives b c r → Refines Whole view_of said (λ x. x.block) b c r
refines b c r w g = let d : Does b c r = of_whole w g in record { whole = d.whole; state = d.view; says = d.answer }

-- of what start gave
pub demand_1_start : (table : Table) (reading : ℕ) (r : Started) → Starts table reading r → Demand1Start table r
demand_1_start table reading r s =
    record {
      exactly = subst (Exactly (table_tests (table_of table))) (sym s.verdict) (demand_1_table (table_of table)).exactly;
      numbers = (demand_1_table (table_of table)).numbers;
      nothing = λ q e c x g. of_broken {b = r.block} (refused_start_not_whole s q (sym s.verdict ∙ e)) g;
    }

module _ {table : Table} {reading : ℕ} {calls : List Call} {events : List Event} {b : Block} (h : History table reading calls events b) where
  first : Whole h.started.block × (view_of h.started.block ≡ start_of (table_of table) reading)
  first = start_whole table reading h.started h.places h.starts h.sound

  whole : Whole b
  whole = (leads Whole view_of Gives said (λ r. r.block) refines calls h.started.block events b first.0 h.leads).whole

  answers : (c : Call) (r : Called) → Gives b c r → said r ≡ (step_of (view_of b) c).answer
  answers c r g = (of_whole whole g).answer

  -- THE DEMANDS
  pub demands : Demands table reading events b
  demands =
      record {
        demand_1 = demand_1 b;
        whole = whole;
        never_15 = λ c r g e. never_15 (view_of b) c (sym (answers c r g) ∙ e);
        answers = answers;
        numbers = call_numbers (view_of b);
        demand_2 = block_demand_2 Whole view_of Gives said (λ r. r.block) refines (table_of table) reading h.sound h.started.block first.0 first.1 calls events b h.leads;
        named = λ c r g. block_named Whole view_of Gives said (λ x. x.block) refines b c r whole g;
        moves = block_moves Whole view_of Gives said (λ r. r.block) refines (table_of table) reading h.sound h.started.block first.0 first.1 calls events b h.leads;
        bound = block_bound Whole view_of Gives said (λ r. r.block) refines (table_of table) reading h.sound h.started.block first.0 first.1 calls events b h.leads;
      }
