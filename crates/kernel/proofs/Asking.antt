-- What a listing and a plan that are asked of a whole block come to. Assumes nothing.
use mathlib.Core.Path.{◌≡◌, refl, ap₂}
use mathlib.Core.Bool.{false}
use mathlib.Core.List.{List}
use Prim.Native.Nat.{ℕ, ◌*◌, ◌-◌, ◌≤◌, ◌<◌}
use native.Mathlib.Omega.{arith}
use borrow.Author.Tests.{lt-ltb, le-ltb}
use lib.ListN.{length}
use Rattle.laws.specs.Words.{Puts}
use Rattle.laws.proofs.Buffers.{puts_written}
use Rattle.rules.specs.Numbers.{first_of}
use Rattle.rules.specs.Table.{most, is_task}
use Rattle.rules.specs.Levels.{plan_for, plan_of}
use Rattle.rules.specs.State.{State, waiting}
use Rattle.rules.specs.Calls.{planned_of}
use Rattle.rules.specs.Listing.{listing_bytes, listed_of}
use Rattle.rules.proofs.Listings.{bytes_twice}
use Rattle.table.specs.Stored.{table_of}
use Rattle.table.proofs.Tests.{nth}
use Rattle.levels.specs.declared.Plan.{Plan}
use Rattle.levels.proofs.Copies.{copy_counted}
use Rattle.levels.specs.Copy.{CopyOf, held}
use Rattle.lists.specs.Links.{Stores}
use Rattle.lists.proofs.Walks.{lists_held}
use Rattle.jobs.specs.Kept.{Dated}
use Rattle.kernel.specs.declared.Block.{Block}
use Rattle.kernel.specs.declared.Refusal.TheVariants as Refusal
use Rattle.std.specs.Prelude.{Ok, Err}
use Rattle.kernel.specs.Block.{view_of, Whole}
use Rattle.kernel.specs.Asks.{listed_in, PlansAs}
use Rattle.jobs.proofs.Keeping.{dated_entry}

-- ---- the listing

-- the lists that the block stores are those of its view
pub lists_viewed : (b : Block) → Whole b → Stores b.ready.lists (view_of b).ready.lists
lists_viewed b w = lists_held w.links.stores

module _ (s : State) (buffer : List ℕ) {n : ℕ} (counted : n ≡ length (waiting s)) where
  pub listed_short : length buffer < 2 * n → listed_in (Err Refusal.BufferTooShort) buffer ≡ listed_of s buffer
  unfolding listed_of first_of
  listed_short h = rw (lt-ltb (length buffer) (2 * length (waiting s)) (omega arith))

  pub listed_all : 2 * n ≤ length buffer → {end : ℕ} {after : List ℕ} → Puts buffer 0 (listing_bytes s.ready.lists) end after
      → listed_in (Ok n) after ≡ listed_of s buffer
  unfolding listed_of first_of
  listed_all h l =
      rw (le-ltb (length buffer) (2 * length (waiting s)) (omega arith))
      (ap₂ (λ (m : ℕ) (q : List ℕ). listed_in (Ok m) q) counted (puts_written (omega (arith, bytes_twice s.ready.lists)) l))

-- ---- a task's plan

-- the block's copy is one of its table
pub copy_viewed : (b : Block) → Whole b → length b.tasks.table.tasks ≡ most → CopyOf (table_of b.tasks.table) b.tasks.rising
copy_viewed b w long = copy_counted b.tasks.table b.tasks.rising long w.tasks_whole.table w.tasks_whole.copy

pub plan_none : (s : State) (k : ℕ) → is_task s.table k ≡ false → PlansAs (planned_of s k) (Err Refusal.NoSuchTask)
unfolding planned_of first_of
plan_none s k h = rw h (record { answer = refl; plan = tt })

-- read with the deadline of the task's stored entry
pub plan_given : (b : Block) (k : ℕ) → length b.tasks.table.tasks ≡ most → Dated b.tasks.table b.jobs k → {p : Plan}
    → p ≡ held (plan_for (table_of b.tasks.table) (nth b.tasks.table (k - 1)).d) → PlansAs (planned_of (view_of b) k) (Ok p)
unfolding planned_of first_of plan_of
plan_given b k long d e = rw (d.task, dated_entry d long) (record { answer = refl; plan = e })
