-- The loop over the levels: empty lists are passed over, and each list drained has had its turn. Assumes nothing.
use mathlib.Core.Path.{◌≡◌, refl, sym, ◌∙◌, subst}
use mathlib.Core.List.{List, []}
use Prim.Native.Nat.{ℕ, zero, suc, ◌+◌, ◌-◌, ◌*◌, ◌≤◌, ◌<◌}
use native.Mathlib.Numerals.{add-one}
use native.Mathlib.Omega.{arith}
use Rattle.rules.specs.Table.{most}
use Rattle.rules.specs.Calls.{lowest}
use Rattle.rules.specs.Promotion.{drained, promoted, leaving, leaving_by}
use Rattle.table.specs.declared.Level.{Level}
use Rattle.lists.specs.declared.Lists.{Lists}
use Rattle.lists.specs.Links.{Stores}
use Rattle.lists.specs.Answers.{occupied_at}
use Rattle.lists.proofs.Few.{list_few}
use Rattle.jobs.specs.declared.Job.{Job}
use Rattle.jobs.specs.declared.Tasks.{Tasks}
use Rattle.jobs.specs.Kept.{levels_at, Levelled}
use Rattle.ready.specs.declared.promotion.Promoted.{Promoted}
use Rattle.ready.specs.Promote.{Promotable, Drainable, DrainedTo, PromotedTo}
use Rattle.lists.proofs.LowestLevel.{Clear, nothing_from, level_from}
use Rattle.ready.proofs.Fronts.{leaving_le}
use Rattle.ready.proofs.Placing.{drained_placed, promotable_placed, placed_promotable}
use Rattle.std.specs.Prelude.{None, Option, Some}

-- ---- the lists from l up to before `end`

module _ (new : ℕ → ℕ) where
  -- the clauses, one at a time: where they unfold, numbers that are known compute all lists
  none_promoted : (l : ℕ) (lists : ℕ → List ℕ) → (promoted new 0 l lists ≡ lists) × (leaving_by new 0 l lists ≡ 0)
  unfolding promoted leaving_by
  none_promoted l lists = (refl, refl)

  one_promoted : (n l : ℕ) (lists : ℕ → List ℕ) → promoted new (suc n) l lists ≡ promoted new n (suc l) (drained new l lists (lists l))
  unfolding promoted
  one_promoted n l lists = refl

  one_leaving : (n l : ℕ) (lists : ℕ → List ℕ) → leaving_by new (suc n) l lists ≡ leaving new l (lists l) + leaving_by new n (suc l) (drained new l lists (lists l))
  unfolding leaving_by
  one_leaving n l lists = refl

  one_empty : (n l : ℕ) (lists : ℕ → List ℕ) → lists l ≡ []
      → (promoted new (suc n) l lists ≡ promoted new n (suc l) lists) × (leaving_by new (suc n) l lists ≡ leaving_by new n (suc l) lists)
  unfolding promoted leaving_by drained leaving
  one_empty n l lists e = (rw e, rw e (omega arith))

  module _ (end : ℕ) where
    -- what promotion makes of the lists from l up, and how many leave one of them
    abbrev promoted_from : ℕ → (ℕ → List ℕ) → ℕ → List ℕ
    promoted_from l lists = promoted new (end - l) l lists

    abbrev leaving_from : ℕ → (ℕ → List ℕ) → ℕ
    leaving_from l lists = leaving_by new (end - l) l lists

    all_passed : (l : ℕ) (lists : ℕ → List ℕ) → end ≤ l → (promoted_from l lists ≡ lists) × (leaving_from l lists ≡ 0)
    all_passed l lists h = let e : end - l ≡ 0 = omega arith in rw e (none_promoted l lists)

    list_passed : (l : ℕ) (lists : ℕ → List ℕ) → l < end → let next : ℕ → List ℕ = drained new l lists (lists l) in
        (promoted_from l lists ≡ promoted_from (l + 1) next) × (leaving_from l lists ≡ leaving new l (lists l) + leaving_from (l + 1) next)
    list_passed l lists h =
        let e : end - l ≡ suc (end - suc l) = omega arith in
        rw (e, add-one l) (one_promoted (end - suc l) l lists, one_leaving (end - suc l) l lists)

    empty_passed : (lists : ℕ → List ℕ) (n l m : ℕ) → m ≡ l + n → m ≤ end → Clear lists l m
        → (promoted_from l lists ≡ promoted_from m lists) × (leaving_from l lists ≡ leaving_from m lists)
    empty_passed lists zero l m e h none = let same : l ≡ m = omega arith in rw same (refl, refl)
    empty_passed lists (suc n) l m e h none =
        let less : end - l ≡ suc (end - suc l) = omega arith in
        let one = one_empty (end - suc l) l lists (none l (omega arith) (omega arith)) in
        let more = empty_passed lists n (suc l) m (omega arith) h (λ j a b. none j (omega arith) b) in
        rw less (one.0 ∙ more.0, one.1 ∙ more.1)

-- ---- of lists ls that were stored at first: the lists below l have had their turn

pub record PromotesTo (new : ℕ → ℕ) (ls : ℕ → List ℕ) (now : Lists) (moves l : ℕ) : Type 0 where
  pub lists : ℕ → List ℕ
  pub stores : Stores now lists
  pub same : promoted new (suc most - l) l lists ≡ promoted new (most - 1) 2 ls
  pub left : moves + leaving_by new (suc most - l) l lists ≡ leaving_by new (most - 1) 2 ls

module _ {new : ℕ → ℕ} {ls : ℕ → List ℕ} {now : Lists} {moves l : ℕ} (w : PromotesTo new ls now moves l) where
  ended : (promoted new (suc most - l) l w.lists ≡ w.lists) × (leaving_by new (suc most - l) l w.lists ≡ 0)
      → PromotedTo new ls (record { now = now; moves = moves })
  ended e = record { stores = subst (Stores now) (sym e.0 ∙ w.same) w.stores; moves = omega (arith, e.1, w.left) }

  -- all lists have had their turn
  promotes_ends : most < l → PromotedTo new ls (record { now = now; moves = moves })
  promotes_ends h = ended (all_passed new (suc most) l w.lists h)

  -- none of those that are left holds a job
  promotes_stops : 1 ≤ l → l ≤ suc most → None ≡ occupied_at (lowest w.lists (suc most - l) l) → PromotedTo new ls (record { now = now; moves = moves })
  promotes_stops low high e =
      let none = nothing_from w.lists l high low e in
      let passed = empty_passed new (suc most) w.lists (suc most - l) l (suc most) (omega arith) (omega arith) none.1 in
      let over = all_passed new (suc most) (suc most) w.lists (omega arith) in
      ended (passed.0 ∙ over.0, passed.1 ∙ over.1)

  -- the lowest of them has its turn
  promotes_turns : l ≤ suc most → (level : Level) → Some level ≡ occupied_at (lowest w.lists (suc most - l) l)
      → (r : Promoted Lists) → DrainedTo new level.0 w.lists r → PromotesTo new ls r.now (moves + r.moves) (level.0 + 1)
  promotes_turns high level e r d =
      let at = level_from w.lists l high level e in
      let passed = empty_passed new (suc most) w.lists (level.0 - l) l level.0 (omega (arith, at.0)) (omega (arith, at.1)) at.2 in
      let turn = list_passed new (suc most) level.0 w.lists (omega (arith, at.1)) in
      record {
        lists = drained new level.0 w.lists (w.lists level.0);
        stores = d.stores;
        same = sym (passed.0 ∙ turn.0) ∙ w.same;
        left = omega (arith, w.left, d.moves, passed.1, turn.1);
      }

-- ---- with what each turn asks

pub record Promoting (tasks : Tasks) (jobs : List Job) (time : ℕ) (before now : Lists) (moves l : ℕ) : Type 0 where
  pub able : Promotable tasks jobs time now
  pub low : 2 ≤ l
  pub high : l ≤ suc most
  pub few : moves ≤ most * l
  pub target : (ls : ℕ → List ℕ) → Stores before ls → PromotesTo (levels_at tasks jobs time) ls now moves l

module _ {tasks : Tasks} {jobs : List Job} {time : ℕ} {before now : Lists} {moves l : ℕ} (w : Promoting tasks jobs time before now moves l) where
  abbrev new : ℕ → ℕ
  new = levels_at tasks jobs time

  pub promoting_ends : most < l → (ls : ℕ → List ℕ) → Stores before ls → PromotedTo (levels_at tasks jobs time) ls (record { now = now; moves = moves })
  promoting_ends h ls st = promotes_ends (w.target ls st) h

  module _ {r : Option Level} (said : (ls : ℕ → List ℕ) → Stores now ls → r ≡ occupied_at (lowest ls (suc most - l) l)) where
    pub promoting_stops : r ≡ None → (ls : ℕ → List ℕ) → Stores before ls → PromotedTo (levels_at tasks jobs time) ls (record { now = now; moves = moves })
    promoting_stops e ls st =
        let p = w.target ls st in
        promotes_stops p (omega (arith, w.low)) w.high (sym e ∙ said p.lists p.stores)

    module _ (level : Level) (e : r ≡ Some level) where
      pub promoting_level : (l ≤ level.0) × (level.0 ≤ most)
      promoting_level = let at = level_from w.able.ls l w.high level (sym e ∙ said w.able.ls w.able.stores) in (at.0, at.1)

      pub promoting_drains : Drainable tasks jobs time now level.0
      promoting_drains =
          let at = promoting_level in
          record { all = w.able; level = record { low = omega (arith, at.0, w.low); high = at.1 }; low = omega (arith, at.0, w.low) }

      pub promoting_turns : (drains : Promoted Lists) → ((ls : ℕ → List ℕ) → Stores now ls → DrainedTo (levels_at tasks jobs time) level.0 ls drains)
          → Promoting tasks jobs time before drains.now (moves + drains.moves) (level.0 + 1)
      promoting_turns drains to =
          let at = promoting_level in
          let d = to w.able.ls w.able.stores in
          record {
            able = placed_promotable (drained new level.0 w.able.ls (w.able.ls level.0)) d.stores
                (drained_placed (Levelled tasks jobs time) _ new level.0 (w.able.ls level.0) w.able.ls refl (promotable_placed w.able));
            low = omega (arith, at.0, w.low);
            high = omega (arith, at.1);
            few = omega (arith, at.0, w.few, d.moves, leaving_le new level.0 (w.able.ls level.0), list_few w.able.stores.waits level.0);
            target = λ ls st. let p = w.target ls st in promotes_turns p w.high level (sym e ∙ said p.lists p.stores) drains (to p.lists p.stores);
          }
