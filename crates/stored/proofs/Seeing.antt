-- The test's loops: over the bits of the map, along one list, and over the levels. The last two are told by what is left. Assumes nothing.
use mathlib.Core.Path.{◌≡◌, refl, sym, ap, ◌∙◌}
use mathlib.Core.Bool.{Bool, true, false, not, ◌&&◌}
use mathlib.Core.List.{List, ◌∷◌, ◌++◌}
use Prim.Native.Nat.{ℕ, zero, suc, ◌+◌, ◌-◌, ◌≤◌, ◌<◌}
use native.Mathlib.Decide.{ℕ_discrete}
use native.Mathlib.Numerals.{add-one}
use native.Mathlib.Omega.{arith}
use borrow.Author.Tests.{le-leb, lt-leb, eqb-true, eq-eqb, ne_eqb}
use lib.Dec.{eqb}
use lib.ListN.{length, take, drop, get_or, set, length-set}
use Rattle.std.specs.Prelude.{Option, None, Some}
use Rattle.std.proofs.lemmas.Grind.{get_or_after_one}
use Rattle.std.proofs.lemmas.List.{get_or-take, length-take}
use Rattle.laws.specs.Words.{Decides, pick, count, joined}
use Rattle.laws.proofs.Bools.{clash, both_true, decides_same}
use Rattle.laws.proofs.Counts.{count_le}
use Rattle.rules.specs.Table.{most}
use Rattle.table.specs.declared.TaskNo.{TaskNo}
use Rattle.lists.specs.declared.Lists.{Lists}
use Rattle.lists.specs.Links.{nobody, at, back}
use Rattle.lists.specs.Held.{walk, list_at, all_of}
use Rattle.lists.specs.Marks.{none, seen_at, marked, fresh}
use Rattle.stored.specs.Test.{Went, Unlinked, ListsRight}
use Rattle.lists.proofs.Walks.{walk_end, walk_on}
use Rattle.lists.proofs.Marks.{unseen_falls, marked_append, fresh_append}

-- ---- the bits of the map: entry k behind the first of an array is entry k + 1

pub behind_first : (a : List TaskNo) (k : ℕ) → k < length (take (length a - 1) (drop 1 a))
    → get_or (take (length a - 1) (drop 1 a)) k nobody ≡ get_or a (k + 1) nobody
behind_first a k h =
    get_or-take (length a - 1) (drop 1 a) k nobody (omega (arith, length-take (length a - 1) (drop 1 a)))
    ∙ get_or_after_one a k nobody ∙ ap (λ (i : ℕ). get_or a i nobody) (omega arith)

-- ---- along the list of level l: x is the next, and the walk from there is left

pub record Going (s : Lists) (l : ℕ) (before seen : List Bool) (passed x : ℕ) : Type 0 where
  pub size : length seen ≡ suc most
  pub fuel : ℕ
  pub enough : count not seen < fuel
  pub fresh : fresh seen (walk (at s.next) fuel x) ≡ fresh before (list_at s l)
  pub last : back passed (walk (at s.next) fuel x) ≡ back 0 (list_at s l)
  pub marked : marked seen (walk (at s.next) fuel x) ≡ marked before (list_at s l)

pub going_starts : (s : Lists) (l : ℕ) (before : List Bool) → length before ≡ suc most → Going s l before before 0 (at s.first l)
going_starts s l before n =
    record { size = n; fuel = suc (suc most); enough = omega (arith, count_le not before); fresh = refl; last = refl; marked = refl }

module _ {s : Lists} {l : ℕ} {before seen : List Bool} {passed x : ℕ} (now : Going s l before seen passed x) where
  -- at the end of the list: the one passed last is the one that ends it, or not
  module _ (z : x ≡ 0) where
    over : fresh before (list_at s l) ≡ true
    unfolding fresh
    over = sym (rw (walk_end (at s.next) now.fuel x z) at now.fresh)

    end : back 0 (list_at s l) ≡ passed
    end = sym (rw (walk_end (at s.next) now.fuel x z) at now.last)

    pub going_ends : at s.last l ≡ passed → Went s l before (Some seen)
    unfolding marked
    going_ends e = rw (over, end, eq-eqb (at s.last l) passed e) (ap Some (rw (walk_end (at s.next) now.fuel x z) at now.marked))

    pub going_misses : (at s.last l ≡ passed → ⊥) → Went s l before None
    going_misses d = rw (over, end, ne_eqb (at s.last l) passed d)

  module _ (h : x ≡ 0 → ⊥) where
    rest : (fuel : ℕ) × (now.fuel ≡ suc fuel) × (walk (at s.next) now.fuel x ≡ x ∷ walk (at s.next) fuel (at s.next x))
    rest = go now.fuel refl
      where
        go : (n : ℕ) → now.fuel ≡ n → (fuel : ℕ) × (now.fuel ≡ suc fuel) × (walk (at s.next) now.fuel x ≡ x ∷ walk (at s.next) fuel (at s.next x))
        go zero e = let z : ⊥ = omega (arith, now.enough) in absurd z
        go (suc fuel) e = (fuel, e, rw e (walk_on (at s.next) fuel x h))

    refused : fresh seen (x ∷ walk (at s.next) rest.0 (at s.next x)) ≡ false → Went s l before None
    refused f = rw (← now.fresh, rest.2, f)

    -- no task's number
    pub going_strays : most < x → Went s l before None
    unfolding fresh
    going_strays b = refused (rw (lt-leb x most b))

    -- a number seen before
    pub going_meets : x ≤ most → seen_at seen x ≡ true → Went s l before None
    unfolding fresh
    going_meets b t = refused (rw (le-leb x most b, t))

    -- a number more
    module _ (b : x ≤ most) (f : seen_at seen x ≡ false) where
      pub going_falls : count not (set seen x true) < count not seen
      going_falls = omega (arith, unseen_falls seen x (omega (arith, now.size)) f)

      pub going_turns : Going s l before (set seen x true) x (at s.next x)
      unfolding fresh marked
      going_turns =
          record {
            size = length-set seen x true ∙ now.size;
            fuel = rest.0;
            enough = omega (arith, going_falls, rest.1, now.enough);
            fresh = rw (rest.2, le-leb x most b, f) at now.fresh;
            last = rw rest.2 at now.last;
            marked = rw rest.2 at now.marked;
          }

-- ---- over the levels: the lists from level l up are left

pub record Seeing (s : Lists) (l : ℕ) (seen : List Bool) : Type 0 where
  pub left : ℕ
  pub levels : left + l ≡ suc most
  pub low : 1 ≤ l
  pub fresh : fresh seen (joined (list_at s) left l) ≡ fresh none (all_of s)
  pub marked : marked seen (joined (list_at s) left l) ≡ marked none (all_of s)
  pub last : (k : ℕ) → 1 ≤ k → k < l → at s.last k ≡ back 0 (list_at s k)

pub seeing_starts : (s : Lists) → Seeing s 1 none
seeing_starts s =
    record { left = most; levels = refl; low = omega arith; fresh = refl; marked = refl; last = λ k a b. absurd (omega arith) }

module _ {s : Lists} {l : ℕ} {seen : List Bool} (now : Seeing s l seen) where
  -- all levels are passed: the rest is told by the links of those not seen
  pub seeing_ends : suc most ≤ l → (b : Bool) → Decides b (Unlinked s seen) → Decides b (ListsRight s)
  unfolding fresh marked joined
  seeing_ends h b d =
      decides_same (Unlinked s seen) (ListsRight s) b
      (λ u. record { fresh = t; last = λ k n. now.last k n.low (omega (arith, n.high)); unlinked = rw e u }) (λ g. rw e at g.unlinked) d
    where
      z : now.left ≡ 0
      z = omega (arith, now.levels)

      t : fresh none (all_of s) ≡ true
      t = sym (rw z at now.fresh)

      e : marked none (all_of s) ≡ seen
      e = sym (rw z at now.marked)

  module _ (b : l ≤ most) where
    above : (n : ℕ) × (now.left ≡ suc n) × (joined (list_at s) now.left l ≡ list_at s l ++ joined (list_at s) n (suc l))
    unfolding joined
    above = go now.left refl
      where
        go : (n : ℕ) → now.left ≡ n → (n : ℕ) × (now.left ≡ suc n) × (joined (list_at s) now.left l ≡ list_at s l ++ joined (list_at s) n (suc l))
        go zero e = let z : ⊥ = omega (arith, now.levels) in absurd z
        go (suc n) e = (n, e, rw e)

    split : fresh none (all_of s) ≡ (fresh seen (list_at s l) && fresh (marked seen (list_at s l)) (joined (list_at s) above.0 (suc l)))
    split = sym now.fresh ∙ ap (fresh seen) above.2 ∙ fresh_append seen (list_at s l) (joined (list_at s) above.0 (suc l))

    -- the list of level l is not right
    pub seeing_refutes : {r : Option (List Bool)} → Went s l seen r → ((more : List Bool) → r ≡ Some more → ⊥) → ListsRight s → ⊥
    seeing_refutes w d h =
        let t = both_true (fresh seen (list_at s l)) (fresh (marked seen (list_at s l)) (joined (list_at s) above.0 (suc l))) (sym split ∙ h.fresh) in
        let e = eq-eqb (at s.last l) (back 0 (list_at s l)) (h.last l (record { low = now.low; high = b })) in
        d (marked seen (list_at s l)) (rw (t.0, e) at w)

    -- .. or it is, and its numbers are marked too
    pub seeing_turns : {more : List Bool} → Went s l seen (Some more) → Seeing s (l + 1) more
    seeing_turns {more} w = rw (add-one l, told.1) turned
      where
        told : (fresh seen (list_at s l) && eqb (at s.last l) (back 0 (list_at s l)) ≡ true) × (more ≡ marked seen (list_at s l))
        told = go (fresh seen (list_at s l) && eqb (at s.last l) (back 0 (list_at s l))) w
          where
            go : (t : Bool) → Some more ≡ pick t (Some (marked seen (list_at s l))) None → (t ≡ true) × (more ≡ marked seen (list_at s l))
            go true e = (refl, cc)
            go false e = clash cc

        turned : Seeing s (suc l) (marked seen (list_at s l))
        turned =
            let p = both_true (fresh seen (list_at s l)) (eqb (at s.last l) (back 0 (list_at s l))) told.0 in
            record {
              left = above.0;
              levels = omega (arith, now.levels, above.1);
              low = omega arith;
              fresh = sym (rw p.0 at split);
              marked = sym (marked_append seen (list_at s l) (joined (list_at s) above.0 (suc l))) ∙ ap (marked seen) (sym above.2) ∙ now.marked;
              last = λ k a c. go k a c (ℕ_discrete k l) (eqb-true _ _ p.1);
            }
          where
            go : (k : ℕ) → 1 ≤ k → k < suc l → Dec (k ≡ l) → at s.last l ≡ back 0 (list_at s l) → at s.last k ≡ back 0 (list_at s k)
            go k a c (yes e) h = rw e h
            go k a c (no d) h = now.last k a (omega arith)
