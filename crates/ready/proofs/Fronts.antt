-- What becomes of the front job of a list, and what that tells of the list. Assumes nothing.
use mathlib.Core.Path.{◌≡◌, refl, sym, ap, ◌∙◌}
use mathlib.Core.Bool.{Bool, true, false}
use mathlib.Core.Logic.{inl}
use mathlib.Core.List.{List, [], ◌∷◌}
use Prim.Native.Nat.{ℕ, suc, ◌+◌, ◌≤◌, ◌<◌}
use native.Mathlib.Omega.{arith}
use borrow.Author.Tests.{ltb-true, lt-ltb}
use lib.Dec.{ltb}
use lib.ListN.{length}
use Rattle.laws.specs.Words.{pick, In, put}
use Rattle.laws.proofs.Bools.{clash}
use Rattle.rules.specs.State.{One}
use Rattle.rules.specs.Calls.{to_end, front_of}
use Rattle.rules.specs.Promotion.{drained, leaving}
use Rattle.table.specs.declared.Level.{Level}
use Rattle.table.specs.declared.TaskNo.{TaskNo}
use Rattle.lists.specs.declared.Lists.{Lists}
use Rattle.lists.specs.Answers.{who_in, front_moved}
use Rattle.jobs.specs.declared.Job.{Job}
use Rattle.jobs.specs.declared.Tasks.{Tasks}
use Rattle.ready.specs.Promote.{goes_to, front_goes, Leaves, Drainable}
use Rattle.ready.proofs.Placing.{moved_rest}
use Rattle.std.specs.Prelude.{None, Option, Some}

-- ---- told by whether it has left its level

module _ (l to : ℕ) {left : Bool} (told : left ≡ ltb to l) where
  pub not_left_stays : left ≡ false → None ≡ goes_to l to
  not_left_stays f = let e : ltb to l ≡ false = sym told ∙ f in rw e

  pub left_goes : (level : Level) → left ≡ true → level.0 ≡ to → Some level ≡ goes_to l to
  left_goes level t e = let g : ltb to l ≡ true = sym told ∙ t in rw g (ap (λ (i : ℕ). Some (record { 0 = i })) e)

-- ---- told by who is in front

pub front_leaves : {tasks : Tasks} {jobs : List Job} {time : ℕ} {s : Lists} {l : ℕ} (d : Drainable tasks jobs time s l) (k : TaskNo) {who : Option TaskNo} → who ≡ Some k
    → who_in who ≡ front_of (d.all.ls l) → Leaves tasks jobs time l k.0
front_leaves {tasks} {jobs} {time} {s} {l} d k e said = go (d.all.ls l) refl (ap who_in (sym e) ∙ said)
  where
    go : (q : List ℕ) → d.all.ls l ≡ q → One k.0 ≡ front_of q → Leaves tasks jobs time l k.0
    go [] f g = clash cc
    go (x ∷ q) f g =
        let same : k.0 ≡ x = cc in
        let m : In k.0 (d.all.ls l) = rw f (inl same) in
        record { known = d.all.known l k.0 m; low = d.low; high = d.all.high l k.0 m }

module _ (new : ℕ → ℕ) (l : ℕ) where
  -- ---- one that stays: the list is drained

  pub stays_drained : (q : List ℕ) → None ≡ front_goes new l q → (lists : ℕ → List ℕ) → (drained new l lists q ≡ lists) × (leaving new l q ≡ 0)
  unfolding drained leaving
  stays_drained [] e lists = (refl, refl)
  stays_drained (x ∷ q) e lists = go (ltb (new x) l) e
    where
      go : (b : Bool) → ◌≡◌ {A = Option Level} None (pick b (Some (record { 0 = new x })) None)
          → (pick b (drained new l (to_end (put lists l q) (new x) x) q) lists ≡ lists) × (pick b (1 + leaving new l q) 0 ≡ 0)
      go true f = clash cc
      go false f = (refl, refl)

  -- no more leave a list than it has
  pub leaving_le : (q : List ℕ) → leaving new l q ≤ length q
  unfolding leaving
  leaving_le [] = omega arith
  leaving_le (x ∷ q) = go (ltb (new x) l) (leaving_le q)
    where
      go : (b : Bool) → leaving new l q ≤ length q → pick b (1 + leaving new l q) 0 ≤ suc (length q)
      go true h = omega arith
      go false h = omega arith

  -- ---- one that goes, to a lower level

  pub record Going (to : ℕ) (q : List ℕ) : Type 0 where
    pub task : ℕ
    pub rest : List ℕ
    pub list : q ≡ task ∷ rest
    pub level : to ≡ new task
    pub lower : to < l

  pub goes_going : (to : Level) (q : List ℕ) → Some to ≡ front_goes new l q → Going to.0 q
  goes_going to [] e = clash cc
  goes_going to (x ∷ q) e = go (ltb (new x) l) refl e
    where
      go : (b : Bool) → ltb (new x) l ≡ b → Some to ≡ pick b (Some (record { 0 = new x })) None → Going to.0 (x ∷ q)
      go true t f =
          let same : to ≡ record { 0 = new x } = cc in
          let level : to.0 ≡ new x = ap (λ (i : Level). i.0) same in
          record { task = x; rest = q; list = refl; level = level; lower = omega (arith, ltb-true (new x) l t) }
      go false t f = clash cc

  module _ (lists : ℕ → List ℕ) (to : ℕ) (g : Going to (lists l)) where
    -- the lists when it has gone
    abbrev pub gone : ℕ → List ℕ
    gone = to_end (put lists l g.rest) to g.task

    pub gone_moved : front_moved lists l to (lists l) ≡ gone
    gone_moved = ap (front_moved lists l to) g.list

    gone_rest : gone l ≡ g.rest
    gone_rest = moved_rest lists l to g.task g.rest g.lower

    falls : ltb (new g.task) l ≡ true
    falls = lt-ltb (new g.task) l (omega (arith, g.lower, g.level))

    pub gone_drained : drained new l gone (gone l) ≡ drained new l lists (lists l)
    unfolding drained
    gone_drained = rw (gone_rest, g.list, falls, g.level)

    pub gone_leaving : leaving new l (lists l) ≡ 1 + leaving new l (gone l)
    unfolding leaving
    gone_leaving = rw (gone_rest, g.list, falls)

    pub gone_shorter : length (lists l) ≡ suc (length (gone l))
    gone_shorter = rw (gone_rest, g.list)
