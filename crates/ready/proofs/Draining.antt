-- The loop along one list: what is stored now leads to the same lists and the same number of moves. Assumes nothing.
use mathlib.Core.Path.{◌≡◌, refl, sym, ap, ◌∙◌, subst}
use mathlib.Core.List.{List, []}
use Prim.Native.Nat.{ℕ, suc, ◌+◌, ◌≤◌, ◌<◌}
use native.Mathlib.Omega.{arith}
use lib.ListN.{length}
use Rattle.laws.proofs.Orders.{long_none}
use Rattle.rules.specs.Table.{most}
use Rattle.rules.specs.Promotion.{drained, leaving}
use Rattle.table.specs.declared.Level.{Level}
use Rattle.lists.specs.declared.Lists.{Lists}
use Rattle.lists.specs.Links.{Stores}
use Rattle.lists.specs.Answers.{front_moved}
use Rattle.lists.specs.Held.{list_at}
use Rattle.lists.proofs.Few.{list_few}
use Rattle.lists.proofs.Walks.{list_held}
use Rattle.jobs.specs.declared.Job.{Job}
use Rattle.jobs.specs.declared.Tasks.{Tasks}
use Rattle.jobs.specs.Kept.{levels_at, Levelled}
use Rattle.ready.specs.Promote.{front_goes, Drainable, DrainedTo}
use Rattle.jobs.proofs.Keeping.{levels_low}
use Rattle.ready.proofs.Fronts.{stays_drained, Going, goes_going, gone, gone_moved, gone_drained, gone_leaving, gone_shorter}
use Rattle.ready.proofs.Placing.{moved_placed, promotable_placed, placed_promotable}
use Rattle.std.specs.Prelude.{None, Option, Some}

-- ---- of lists ls that were stored at first

pub record DrainsTo (new : ℕ → ℕ) (l : ℕ) (ls : ℕ → List ℕ) (now : Lists) (moves : ℕ) : Type 0 where
  pub lists : ℕ → List ℕ
  pub stores : Stores now lists
  pub same : drained new l lists (lists l) ≡ drained new l ls (ls l)
  pub left : moves + leaving new l (lists l) ≡ leaving new l (ls l)

drains_starts : {new : ℕ → ℕ} {l : ℕ} {s : Lists} (ls : ℕ → List ℕ) → Stores s ls → DrainsTo new l ls s 0
drains_starts ls st = record { lists = ls; stores = st; same = refl; left = omega arith }

module _ {new : ℕ → ℕ} {l : ℕ} {ls : ℕ → List ℕ} {now : Lists} {moves : ℕ} (w : DrainsTo new l ls now moves) where
  drains_ends : None ≡ front_goes new l (w.lists l) → DrainedTo new l ls (record { now = now; moves = moves })
  drains_ends e =
      let end = stays_drained new l (w.lists l) e w.lists in
      record { stores = subst (Stores now) (sym end.0 ∙ w.same) w.stores; moves = omega (arith, end.1, w.left) }

  drains_turns : (to : Level) → Some to ≡ front_goes new l (w.lists l) → {next : Lists} → Stores next (front_moved w.lists l to.0 (w.lists l))
      → DrainsTo new l ls next (moves + 1)
  drains_turns to e {next} st =
      let g = goes_going new l to (w.lists l) e in
      record {
        lists = gone new l w.lists to.0 g;
        stores = subst (Stores next) (gone_moved new l w.lists to.0 g) st;
        same = gone_drained new l w.lists to.0 g ∙ w.same;
        left = omega (arith, w.left, gone_leaving new l w.lists to.0 g);
      }

  -- nobody is left
  drains_all : w.lists l ≡ [] → DrainedTo new l ls (record { now = now; moves = moves })
  drains_all e = drains_ends (ap (front_goes new l) (sym e))

-- ---- with what each turn asks

pub record Draining (tasks : Tasks) (jobs : List Job) (time l : ℕ) (before now : Lists) (moves : ℕ) : Type 0 where
  pub able : Drainable tasks jobs time now l
  pub few : moves + length (list_at now l) ≤ most
  pub target : (ls : ℕ → List ℕ) → Stores before ls → DrainsTo (levels_at tasks jobs time) l ls now moves

pub draining_starts : {tasks : Tasks} {jobs : List Job} {time l : ℕ} {s : Lists} → Drainable tasks jobs time s l → Draining tasks jobs time l s s 0
draining_starts {l = l} able =
    let st = able.all.stores in
    record { able = able; few = rw (list_held st l) (omega (arith, list_few st.waits l)); target = drains_starts }

-- as many have moved as a list can hold
pub draining_all : {tasks : Tasks} {jobs : List Job} {time l : ℕ} {before now : Lists} {moves : ℕ} → Draining tasks jobs time l before now moves → most ≤ moves
    → (ls : ℕ → List ℕ) → Stores before ls → DrainedTo (levels_at tasks jobs time) l ls (record { now = now; moves = moves })
draining_all {l = l} {now = now} w h ls st =
    let d = w.target ls st in
    drains_all d (sym (list_held d.stores l) ∙ long_none (list_at now l) (omega (arith, w.few)))

module _ {tasks : Tasks} {jobs : List Job} {time l : ℕ} {before now : Lists} {moves : ℕ} (w : Draining tasks jobs time l before now moves)
    {r : Option Level} (said : (ls : ℕ → List ℕ) → Stores now ls → r ≡ front_goes (levels_at tasks jobs time) l (ls l)) where
  pub draining_ends : r ≡ None → (ls : ℕ → List ℕ) → Stores before ls → DrainedTo (levels_at tasks jobs time) l ls (record { now = now; moves = moves })
  draining_ends e ls st = let d = w.target ls st in drains_ends d (sym e ∙ said d.lists d.stores)

  module _ (to : Level) (e : r ≡ Some to) where
    abbrev new : ℕ → ℕ
    new = levels_at tasks jobs time

    -- the lists that are known to be stored now
    abbrev held : ℕ → List ℕ
    held = w.able.all.ls

    goes : Going new l to.0 (held l)
    goes = goes_going new l to (held l) (sym e ∙ said held w.able.all.stores)

    pub draining_level : (1 ≤ to.0) × (to.0 ≤ most)
    draining_level = (omega (arith, goes.level, levels_low tasks jobs time goes.task), omega (arith, goes.lower, w.able.level.high))

    shorter : length (list_at now l) ≡ suc (length (gone new l held to.0 goes l))
    shorter = rw (list_held w.able.all.stores l) (gone_shorter new l held to.0 goes)

    module _ {next : Lists} (moved : (ls : ℕ → List ℕ) → Stores now ls → Stores next (front_moved ls l to.0 (ls l))) where
      stored : Stores next (gone new l held to.0 goes)
      stored = subst (Stores next) (gone_moved new l held to.0 goes) (moved held w.able.all.stores)

      draining_falls : length (list_at next l) < length (list_at now l)
      draining_falls = rw (list_held stored l) (omega (arith, shorter))

      pub draining_turns : Draining tasks jobs time l before next (moves + 1)
      draining_turns =
          record {
            able = record {
              all = placed_promotable (gone new l held to.0 goes) stored
                  (moved_placed (Levelled tasks jobs time) _ l to.0 goes.task goes.rest goes.lower held goes.list (promotable_placed w.able.all));
              level = w.able.level;
              low = w.able.low;
            };
            few = omega (arith, w.few, draining_falls);
            target = λ ls st. let d = w.target ls st in drains_turns d to (sym e ∙ said d.lists d.stores) (moved d.lists d.stores);
          }
