-- A plan in numbers: put into a lent array, point by point, and what the door for a plan gives back. Assumes nothing.
use Rattle.std.proofs.Common.{◌≡◌, ℕ, ◌+◌, ◌*◌, ◌≤◌, ◌<◌, Bool, true, false, List, [], ◌∷◌, ◌++◌, Result, Ok, Err, refl, ap, subst, ◌∙◌}
use native.Mathlib.Numerals.{add-one}
use native.Mathlib.Omega.{arith}
use borrow.Author.Tests.{eq-eqb}
use lib.ListN.{length, get_or, take, drop, set, drop_of_length-le, length-map, get_or-map}
use lib.Seq.{drop-cons, length-take-le}
use Rattle.laws.specs.Words.{Decides, pick}
use Rattle.laws.proofs.Buffers.{Filling, filling_turn, filling_puts, puts_none, puts_to}
use Rattle.laws.proofs.Bools.{clash}
use Rattle.rules.specs.Numbers.{Refusal, NotWhole, Verdict, Passed, Failed, first_of, number_of, number_in}
use Rattle.rules.specs.Table.{most, task_at, tests_to3}
use Rattle.rules.specs.Levels.{Point, plan_of}
use Rattle.rules.specs.State.{State}
use Rattle.rules.specs.Calls.{task_test, planned_by, planned_of}
use Rattle.levels.specs.declared.Plan.{Plan}
use Rattle.levels.specs.declared.Point as Stored
use Rattle.levels.specs.Copy.{point_in, points_in}
use Rattle.levels.proofs.PlansHeld.{plan_fits, points_count, points_held}
use Rattle.kernel.specs.declared.Block.{Block}
use Rattle.kernel.specs.declared.Refusal as Given
use Rattle.kernel.specs.Block.{view_of, Whole}
use Rattle.kernel.specs.Answers.{refusal_in}
use Rattle.kernel.specs.Asks.{asked_in, PlansAs, GivesPlan}
use Rattle.kernel.proofs.Fifteen.{then_15}
use Rattle.image.specs.Bytes.{size, block_in}
use Rattle.export.specs.Door.{number_by, point_numbers, plan_numbers, PlanPut, TellsPlan}

-- ---- into an array

numbers_first : (ps : List Point) (i : ℕ) (d : Point) → i < length ps → plan_numbers (drop i ps) ≡ point_numbers (get_or ps i d) ++ plan_numbers (drop (i + 1) ps)
unfolding plan_numbers
numbers_first ps i d h = rw (add-one i, drop-cons ps i d h)

numbers_none : (ps : List Point) (i : ℕ) → length ps ≤ i → plan_numbers (drop i ps) ≡ []
unfolding plan_numbers
numbers_none ps i h = rw (drop_of_length-le ps h)

-- the points from i on are left to put
abbrev pub PointsLeft : (before : List ℕ) → Plan → (i : ℕ) → (array : List ℕ) → Type 0
PointsLeft before plan i array = Filling before 0 (plan_numbers (points_in plan)) (2 * i) (plan_numbers (drop i (points_in plan))) array

module _ {before : List ℕ} (plan : Plan) (few : plan.count ≤ length plan.points) {array : List ℕ} (i : ℕ) (now : PointsLeft before plan i array) where
  points_number : length (points_in plan) ≡ plan.count
  points_number = length-map (take plan.count plan.points) point_in ∙ length-take-le plan.count plan.points few

  abbrev stored : List Stored.Point
  stored = take plan.count plan.points

  pub points_turn : (d : Stored.Point) → i < plan.count
      → PointsLeft before plan (i + 1) (set (set array (2 * i) (get_or stored i d).at) (2 * i + 1) (get_or stored i d).level.0)
  points_turn d h =
      let e : 2 * (i + 1) ≡ 2 * i + 2 = omega arith in
      let behind = plan_numbers (drop (i + 1) (points_in plan)) in
      rw (e, add-one (2 * i)) (filling_turn now (point_numbers (point_in (get_or stored i d))) behind
      (numbers_first (points_in plan) i (point_in d) (omega (arith, points_number)) ∙ ap (λ (p : Point). point_numbers p ++ behind) (get_or-map point_in stored i d)))

  pub points_end : i ≡ plan.count → PlanPut before (points_in plan) array
  points_end e = puts_to (omega (arith, points_number)) (filling_puts now (numbers_none (points_in plan) i (omega (arith, points_number))))

-- ---- what the door gives back

-- of a table that passed its tests
planned_few : (s : State) (k : ℕ) → first_of (tests_to3 s.table) ≡ Passed → length (planned_of s k).points ≤ most
unfolding planned_of plan_of
planned_few s k e = go (first_of (task_test s.table k ∷ []))
  where
    go : (v : Verdict) → length (planned_by s k v).points ≤ most
    go Passed = plan_fits s.table (task_at s.table k).d e
    go (Failed q) = omega arith

pub plan_few : (b : Block) (k : ℕ) (p : Plan) → GivesPlan b k (Ok p) → p.count ≤ most
plan_few b k p g = go g.whole g.decides g.then
  where
    go : (w : Bool) → Decides w (Whole b) → PlansAs (pick w (planned_of (view_of b) k) (planned_by (view_of b) k (Failed NotWhole))) (Ok p) → p.count ≤ most
    go true w x = omega (arith, ap (λ (q : Plan). q.count) x.plan ∙ points_count _, planned_few (view_of b) k w.tasks_whole.table)
    go false w x = omega (arith, ap (λ (q : Plan). q.count) x.plan ∙ points_count _)

-- the number of one that was refused
number_not_given : (a : Result Plan Given.Refusal) → ((p : Plan) → a ≡ Ok p → ⊥) → (n : ℕ) → 256 * number_in (asked_in a) ≡ number_by n (asked_in a)
number_not_given (Ok p) h n = absurd (h p refl)
number_not_given (Err r) h n = refl

-- a plan that was refused has no points
refused_none : (s : State) (k : ℕ) (q : Refusal) (w : Bool) → Failed q ≡ (pick w (planned_of s k) (planned_by s k (Failed NotWhole))).verdict
    → (pick w (planned_of s k) (planned_by s k (Failed NotWhole))).points ≡ []
unfolding planned_of
refused_none s k q false e = refl
refused_none s k q true e = go (first_of (task_test s.table k ∷ [])) e
  where
    go : (v : Verdict) → Failed q ≡ (planned_by s k v).verdict → (planned_by s k v).points ≡ []
    go Passed f = clash cc
    go (Failed r) f = refl

module _ (bytes : List ℕ) (k : ℕ) (before : List ℕ) (h : length bytes ≡ size) {b : Block} (e : b ≡ block_in bytes) where
  pub plans_given : (p : Plan) → GivesPlan b k (Ok p) → {after : List ℕ} → PlanPut before (points_in p) after → TellsPlan bytes k before p.count after
  plans_given p g {after} a =
      rw (eq-eqb (length bytes) size h) (then_15 (λ w x. (
        ap (λ (q : Plan). q.count) x.plan ∙ points_count _ ∙ ap (number_by _) x.answer,
        subst (λ (ps : List Point). PlanPut before ps after) (ap points_in x.plan ∙ points_held _) a,
      )) (subst (λ (b : Block). GivesPlan b k (Ok p)) e g))

  pub plans_refused : (r : Given.Refusal) → GivesPlan b k (Err r) → {n : ℕ} → n ≡ number_of (refusal_in r) → TellsPlan bytes k before (256 * n) before
  unfolding plan_numbers
  plans_refused r g n =
      rw (eq-eqb (length bytes) size h) (then_15 (λ w x. (
        ap (λ (m : ℕ). 256 * m) n ∙ ap (number_by _) x.answer,
        rw (refused_none (view_of (block_in bytes)) k (refusal_in r) w x.answer) (puts_none before 0),
      )) (subst (λ (b : Block). GivesPlan b k (Err r)) e g))
