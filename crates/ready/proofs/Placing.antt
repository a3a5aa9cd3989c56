-- Where jobs wait, and what is known of them, while the lists are drained. Assumes nothing.
use mathlib.Core.Path.{◌≡◌, refl, ◌∙◌}
use mathlib.Core.Bool.{Bool, true, false}
use mathlib.Core.Logic.{inl, inr, ⊎_elim}
use mathlib.Core.List.{List, [], ◌∷◌, ◌++◌}
use Prim.Native.Nat.{ℕ, suc, ◌≤◌, ◌<◌}
use native.Mathlib.Omega.{arith}
use borrow.Author.Tests.{ltb-true}
use lib.Dec.{ltb}
use lib.ListN.{length}
use Rattle.laws.specs.Words.{pick, In, put}
use Rattle.laws.proofs.Orders.{in_append}
use Rattle.laws.proofs.Families.{put_here, put_other, put_all}
use Rattle.rules.specs.Calls.{to_end}
use Rattle.rules.specs.Promotion.{drained}
use Rattle.table.specs.Stored.{table_of}
use Rattle.lists.specs.declared.Lists.{Lists}
use Rattle.lists.specs.Links.{Stores}
use Rattle.jobs.specs.declared.Job.{Job}
use Rattle.jobs.specs.declared.Tasks.{Tasks}
use Rattle.jobs.specs.Kept.{Levelled}
use Rattle.ready.specs.Promote.{Promotable}

-- what is left in list l when its front job has gone to the end of a lower list
pub moved_rest : (lists : ℕ → List ℕ) (l to x : ℕ) (q : List ℕ) → to < l → to_end (put lists l q) to x l ≡ q
moved_rest lists l to x q h = put_other (put lists l q) to (put lists l q to ++ x ∷ []) l (λ e. omega arith) ∙ put_here lists l q l refl

-- ---- P holds of each who waits, and none waits above level b

module _ (P : ℕ → Type 0) (b : ℕ) where
  abbrev pub Placed : (ℕ → List ℕ) → Type 0
  Placed lists = (l k : ℕ) → In k (lists l) → P k × (l ≤ b)

  module _ (l to x : ℕ) (q : List ℕ) (lower : to < l) where
    -- the front job of list l goes to the end of a lower list
    pub moved_placed : (lists : ℕ → List ℕ) → lists l ≡ x ∷ q → Placed lists → Placed (to_end (put lists l q) to x)
    moved_placed lists e h =
        put_all (put lists l q) to (put lists l q to ++ x ∷ []) (λ j v. (k : ℕ) → In k v → P k × (j ≤ b))
        (λ k m. ⊎_elim (left to k) (λ i. ⊎_elim (λ f. rw f came) (λ z. absurd z) i) (in_append k (put lists l q to) (x ∷ []) m)) (λ j d. left j)
      where
        front : P x × (l ≤ b)
        front = h l x (rw e (inl refl))

        came : P x × (to ≤ b)
        came = (front.0, omega (arith, front.1))

        left : (j k : ℕ) → In k (put lists l q j) → P k × (j ≤ b)
        left = put_all lists l q (λ j v. (k : ℕ) → In k v → P k × (j ≤ b)) (λ k m. h l k (rw e (inr m))) (λ j d. h j)

  -- all that leave it go
  pub drained_placed : (new : ℕ → ℕ) (l : ℕ) (q : List ℕ) (lists : ℕ → List ℕ) → lists l ≡ q → Placed lists → Placed (drained new l lists q)
  unfolding drained
  drained_placed new l [] lists e h = h
  drained_placed new l (x ∷ q) lists e h = go (ltb (new x) l) refl (drained_placed new l q (to_end (put lists l q) (new x) x))
    where
      go : (t : Bool) → ltb (new x) l ≡ t
          → (to_end (put lists l q) (new x) x l ≡ q → Placed (to_end (put lists l q) (new x) x) → Placed (drained new l (to_end (put lists l q) (new x) x) q))
          → Placed (pick t (drained new l (to_end (put lists l q) (new x) x) q) lists)
      go true f ih =
          let lower : new x < l = ltb-true (new x) l f in
          ih (moved_rest lists l (new x) x q lower) (moved_placed l (new x) x q lower lists e h)
      go false f ih = h

-- ---- as promotion asks it

module _ {tasks : Tasks} {jobs : List Job} {time : ℕ} {s : Lists} where
  pub promotable_placed : (a : Promotable tasks jobs time s) → Placed (Levelled tasks jobs time) (suc (length (table_of tasks.table))) a.ls
  promotable_placed a l k m = (a.known l k m, a.high l k m)

  pub placed_promotable : (ls : ℕ → List ℕ) → Stores s ls → Placed (Levelled tasks jobs time) (suc (length (table_of tasks.table))) ls → Promotable tasks jobs time s
  placed_promotable ls st h = record { ls = ls; stores = st; known = λ l k m. (h l k m).0; high = λ l k m. (h l k m).1 }
