-- What the parts of the test tell is all that it takes to store lists. Assumes nothing.
use mathlib.Core.Path.{◌≡◌, refl, sym, ap, ◌∙◌}
use mathlib.Core.Bool.{not}
use mathlib.Core.Logic.{◌⊎◌, inl, inr, ⊎_elim}
use mathlib.Core.List.{List, []}
use Prim.Native.Nat.{ℕ, zero, suc, ◌+◌, ◌≤◌, ◌<◌}
use native.Mathlib.Decide.{dec_lt}
use native.Mathlib.Numerals.{add-one}
use native.Mathlib.Omega.{arith}
use lib.Dec.{eqb}
use lib.ListN.{length, get_or-eq_default}
use Rattle.laws.specs.Words.{digit, In}
use Rattle.laws.proofs.Bools.{true_false, not_false_test}
use Rattle.laws.proofs.Orders.{none_in}
use Rattle.laws.proofs.Families.{in_joined}
use Rattle.rules.specs.Table.{most}
use Rattle.table.specs.declared.TaskNo.{TaskNo}
use Rattle.lists.specs.declared.Lists.{Lists}
use Rattle.lists.specs.Links.{Numbered, Waits, Stores, Once, Sized, nobody, at, front, back, occupied}
use Rattle.lists.specs.Answers.{Holds}
use Rattle.lists.specs.Held.{list_at, all_of}
use Rattle.lists.specs.Marks.{none, seen_at, marked}
use Rattle.stored.specs.Test.{ListsRight, MapTrue}
use Rattle.lists.proofs.Few.{list_few}
use Rattle.lists.proofs.Walks.{walk_end, walk_front, walk_occupied, walk_positive, walk_linked, lists_held}
use Rattle.lists.proofs.Apart.{joined_in, joined_once, once_each, apart_each}
use Rattle.lists.proofs.Marks.{seen_none, marked_only, marked_in, Unseen, fresh_once, once_fresh}

past_end : (a : List TaskNo) (k : ℕ) → length a ≡ suc most → most < k → at a k ≡ 0
past_end a k n h = ap (λ (u : TaskNo). u.0) (get_or-eq_default a nobody (omega arith))

bit_told : (s : Lists) (k : ℕ) → digit (not (eqb (at s.first (k + 1)) 0)) ≡ digit (occupied (list_at s (suc k)))
bit_told s k = rw (add-one k) (ap digit (sym (walk_occupied (at s.next) (suc most) (at s.first (suc k)))))

in_lists : (s : Lists) (x l : ℕ) → Numbered l → In x (list_at s l) → In x (all_of s)
in_lists s x l n i = joined_in (list_at s) x most 1 l n.low (omega (arith, n.high)) i

-- ---- arrays that pass the test

module _ {s : Lists} (sz : Sized s) (first-0 : at s.first 0 ≡ 0) (last-0 : at s.last 0 ≡ 0) (m : MapTrue s) (t : ListsRight s) where
  empty : (l : ℕ) → at s.first l ≡ 0 → list_at s l ≡ []
  empty l e = walk_end (at s.next) (suc (suc most)) (at s.first l) e

  -- past the levels there is nothing
  place : (l : ℕ) → Numbered l ⊎ ((list_at s l ≡ []) × (at s.last l ≡ 0))
  place zero = inr (empty 0 first-0, last-0)
  place (suc k) = go (dec_lt most (suc k))
    where
      go : Dec (most < suc k) → Numbered (suc k) ⊎ ((list_at s (suc k) ≡ []) × (at s.last (suc k) ≡ 0))
      go (yes h) = inr (empty (suc k) (past_end s.first (suc k) sz.first h), past_end s.last (suc k) sz.last h)
      go (no h) = inl (record { low = omega arith; high = omega arith })

  level : (l x : ℕ) → In x (list_at s l) → Numbered l
  level l x i = ⊎_elim (λ n. n) (λ e. absurd (rw e.0 at i)) (place l)

  parts : Once (all_of s) × Unseen none (all_of s)
  parts = fresh_once none (all_of s) refl t.fresh

  waits : Waits (list_at s)
  waits =
      record {
        task = λ l x i.
            record {
              low = walk_positive (at s.next) (suc (suc most)) (at s.first l) x i;
              high = (parts.1 x (in_lists s x l (level l x i) i)).0;
            };
        level = level;
        once = λ l. ⊎_elim (λ n. once_each (list_at s) most 1 parts.0 l n.low (omega (arith, n.high))) (λ e. rw e.0 tt) (place l);
        apart = λ x i j p q.
            apart_each (list_at s) most 1 parts.0 x i j (level i x p).low (omega (arith, (level i x p).high)) (level j x q).low
            (omega (arith, (level j x q).high)) p q;
      }

  free : (x : ℕ) → ((l : ℕ) → In x (list_at s l) → ⊥) → at s.next x ≡ 0
  free x h = go (dec_lt most x)
    where
      go : Dec (most < x) → at s.next x ≡ 0
      go (yes b) = past_end s.next x sz.next b
      go (no b) =
          t.unlinked x (omega arith)
          (not_false_test (seen_at (marked none (all_of s)) x)
          (λ u. ⊎_elim (λ v. true_false (seen_at none x) v (seen_none (suc most) x)) (λ i. i) (marked_only x none (all_of s) u))
          (λ i. let j = in_joined (list_at s) x most 1 i in h j.0 j.2))

  pub tests_hold : Holds s
  tests_hold =
      record {
        lists = list_at s;
        stores = record {
          waits = waits;
          first = λ l. sym (walk_front (at s.next) (suc most) (at s.first l));
          last = λ l. ⊎_elim (t.last l) (λ e. e.1 ∙ ap (back 0) (sym e.0)) (place l);
          next = λ l. walk_linked (at s.next) (suc (suc most)) (at s.first l) (omega (arith, list_few waits l));
          free = free;
          map = λ k b. m k b ∙ bit_told s k;
        };
      }

-- ---- arrays that store lists

module _ {s : Lists} (h : Holds s) where
  held : Stores s (list_at s)
  held = lists_held h.stores

  no_level : h.lists 0 ≡ []
  no_level = none_in (h.lists 0) (λ x m. omega (arith, (h.stores.waits.level 0 x m).low))

  pub holds_first : at s.first 0 ≡ 0
  holds_first = h.stores.first 0 ∙ ap front no_level

  pub holds_last : at s.last 0 ≡ 0
  holds_last = h.stores.last 0 ∙ ap (back 0) no_level

  pub holds_map : MapTrue s
  holds_map k b = held.map k b ∙ sym (bit_told s k)

  task : (x : ℕ) → In x (all_of s) → x ≤ most
  task x m = let j = in_joined (list_at s) x most 1 m in (held.waits.task j.0 x j.2).high

  pub holds_listed : ListsRight s
  holds_listed =
      record {
        fresh = once_fresh none (all_of s) (joined_once (list_at s) most 1 held.waits.once held.waits.apart) (λ x m. (task x m, seen_none (suc most) x));
        last = λ l n. held.last l;
        unlinked = λ x b f.
            held.free x (λ l m.
            true_false (seen_at (marked none (all_of s)) x) (marked_in x none (all_of s) refl task (inr (in_lists s x l (held.waits.level l x m) m))) f);
      }
