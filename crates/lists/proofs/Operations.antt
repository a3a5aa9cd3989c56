-- The operations on arrays and map, as operations on lists. Assumes nothing.
use mathlib.Core.Path.{◌≡◌, refl, sym, ap, ◌∙◌, subst}
use mathlib.Core.Logic.{inl}
use mathlib.Core.List.{List, [], ◌∷◌}
use Prim.Native.Nat.{ℕ, zero, suc, ◌-◌, ◌≤◌}
use native.Mathlib.Omega.{arith}
use lib.ListN.{get_or, set, replicate}
use Rattle.std.specs.Prelude.{None, Some}
use Rattle.laws.specs.Words.{In, behind, put}
use Rattle.laws.specs.Bits.{BitMade}
use Rattle.laws.proofs.Bools.{clash}
use Rattle.laws.proofs.Families.{put_same, put_all}
use Rattle.laws.proofs.Bits.{zero_bit}
use Rattle.rules.specs.Table.{most}
use Rattle.rules.specs.State.{Nobody, One}
use Rattle.rules.specs.Calls.{to_front, to_end, front_of}
use Rattle.table.specs.declared.TaskNo.{TaskNo}
use Rattle.lists.specs.declared.Lists.{Lists}
use Rattle.lists.specs.declared.Popped.{Popped}
use Rattle.lists.specs.Links.{Numbered, Once, Sized, nobody, at, front, Stores}
use Rattle.lists.specs.Answers.{who_in, MayEnter, PopsFrom, front_moved}
use Rattle.lists.proofs.Links.{front_empty, front_most, back_most, push_front_first, push_front_more, push_back_first, push_back_more, pop_last, pop_more}
use Rattle.lists.proofs.Storage.{at_set, stored_by, stores}
use Rattle.lists.proofs.Determined.{enters_absent}

abbrev entry : List TaskNo → ℕ → TaskNo
entry a i = get_or a i nobody

-- ---- what stands at the ends is a place of the arrays

module _ {s : Lists} {ls : ℕ → List ℕ} (st : Stores s ls) (l : ℕ) where
  pub first_place : at s.first l ≤ most
  first_place = omega (arith, st.first l, front_most (ls l) (st.waits.task l))

  pub last_place : at s.last l ≤ most
  last_place = omega (arith, st.last l, back_most (ls l) (st.waits.task l))

-- ---- pushes

module _ {s : Lists} {ls : ℕ → List ℕ} (sz : Sized s) (st : Stores s ls) (l : ℕ) (t : TaskNo) (may : MayEnter s l t.0) where
  pub pushed_front_first : (r : ℕ) → at s.first l ≡ 0 → BitMade s.map (l - 1) 1 r
      → Stores (record { first = set s.first l t; last = set s.last l t; next = set s.next t.0 (entry s.first l); map = r }) (to_front ls l t.0)
  pushed_front_first r z made =
      stores _ _ _ _ _ _ _ (at_set s.first l t (omega (arith, sz.first, may.level.high))) (at_set s.last l t (omega (arith, sz.last, may.level.high)))
      (at_set s.next t.0 (entry s.first l) (omega (arith, sz.next, may.task.high)))
      (push_front_first (stored_by st) l may.level t.0 may.task (enters_absent st may) r z made)

  pub pushed_front_more : (at s.first l ≡ 0 → ⊥)
      → Stores (record { first = set s.first l t; last = s.last; next = set s.next t.0 (entry s.first l); map = s.map }) (to_front ls l t.0)
  pushed_front_more z =
      stores _ _ _ _ _ _ _ (at_set s.first l t (omega (arith, sz.first, may.level.high))) refl
      (at_set s.next t.0 (entry s.first l) (omega (arith, sz.next, may.task.high)))
      (push_front_more (stored_by st) l may.level t.0 may.task (enters_absent st may) z)

  pub pushed_back_first : (r : ℕ) → at s.last l ≡ 0 → BitMade s.map (l - 1) 1 r
      → Stores (record { first = set s.first l t; last = set s.last l t; next = s.next; map = r }) (to_end ls l t.0)
  pushed_back_first r z made =
      stores _ _ _ _ _ _ _ (at_set s.first l t (omega (arith, sz.first, may.level.high))) (at_set s.last l t (omega (arith, sz.last, may.level.high))) refl
      (push_back_first (stored_by st) l may.level t.0 may.task (enters_absent st may) r z made)

  pub pushed_back_more : (at s.last l ≡ 0 → ⊥)
      → Stores (record { first = s.first; last = set s.last l t; next = set s.next (at s.last l) t; map = s.map }) (to_end ls l t.0)
  pushed_back_more z =
      stores _ _ _ _ _ _ _ refl (at_set s.last l t (omega (arith, sz.last, may.level.high)))
      (at_set s.next (at s.last l) t (omega (arith, sz.next, last_place st l)))
      (push_back_more (stored_by st) l may.level t.0 may.task (enters_absent st may) z)

-- ---- pops

module _ {s : Lists} {ls : ℕ → List ℕ} (sz : Sized s) (st : Stores s ls) (l : ℕ) (level : Numbered l) where
  pub popped_none : at s.first l ≡ 0 → PopsFrom ls l (record { front = None; lists = s })
  popped_none z =
      let none : ls l ≡ [] = front_empty (ls l) (st.waits.task l) (sym (st.first l) ∙ z) in
      record {
        front = ap front_of (sym none);
        stores = subst (Stores s) (sym (put_same ls l (behind (ls l)) (none ∙ ap behind (sym none)))) st;
      }

  -- the list that is there, by its front
  taken : (at s.first l ≡ 0 → ⊥) → (q : List ℕ) × (ls l ≡ at s.first l ∷ q)
  taken z = go (ls l) refl
    where
      go : (v : List ℕ) → ls l ≡ v → (q : List ℕ) × (v ≡ at s.first l ∷ q)
      go [] e = absurd (z (st.first l ∙ ap front e))
      go (a ∷ q) e = (q, ap (λ (i : ℕ). i ∷ q) (sym (st.first l ∙ ap front e)))

  module _ (z : at s.first l ≡ 0 → ⊥) where
    gives : (r : Lists) → Stores r (put ls l (taken z).0) → PopsFrom ls l (record { front = Some (entry s.first l); lists = r })
    gives r h =
        record {
          front = ap front_of (sym (taken z).1);
          stores = subst (λ (q : List ℕ). Stores r (put ls l q)) (ap behind (sym (taken z).1)) h;
        }

    pub popped_last : (r : ℕ) → at s.next (at s.first l) ≡ 0 → BitMade s.map (l - 1) 0 r
        → PopsFrom ls l (record {
          front = Some (entry s.first l);
          lists = record {
            first = set s.first l (entry s.next (at s.first l));
            last = set s.last l nobody;
            next = set s.next (at s.first l) nobody;
            map = r;
          };
        })
    popped_last r y made =
        gives _
        (stores _ _ _ _ _ _ _ (at_set s.first l (entry s.next (at s.first l)) (omega (arith, sz.first, level.high)))
        (at_set s.last l nobody (omega (arith, sz.last, level.high)))
        (at_set s.next (at s.first l) nobody (omega (arith, sz.next, first_place st l)))
        (pop_last (stored_by st) l level (at s.first l) (taken z).0 (taken z).1 r y made))

    pub popped_more : (at s.next (at s.first l) ≡ 0 → ⊥)
        → PopsFrom ls l (record {
          front = Some (entry s.first l);
          lists = record {
            first = set s.first l (entry s.next (at s.first l));
            last = s.last;
            next = set s.next (at s.first l) nobody;
            map = s.map;
          };
        })
    popped_more y =
        gives _
        (stores _ _ _ _ _ _ _ (at_set s.first l (entry s.next (at s.first l)) (omega (arith, sz.first, level.high))) refl
        (at_set s.next (at s.first l) nobody (omega (arith, sz.next, first_place st l)))
        (pop_more (stored_by st) l level (at s.first l) (taken z).0 (taken z).1 y))

  -- who is in front
  pub front_nobody : at s.first l ≡ 0 → who_in None ≡ front_of (ls l)
  front_nobody z = (popped_none z).front

-- ---- promotion's inner step

module _ {s : Lists} {ls : ℕ → List ℕ} (st : Stores s ls) (l : ℕ) (r : Popped) (pop : PopsFrom ls l r) where
  -- what a pop that gave a job tells of the list
  split : (t : TaskNo) → r.front ≡ Some t → (q : List ℕ) × (ls l ≡ t.0 ∷ q)
  split t e = go (ls l) (sym pop.front ∙ ap who_in e)
    where
      go : (v : List ℕ) → front_of v ≡ One t.0 → (q : List ℕ) × (v ≡ t.0 ∷ q)
      go [] f = clash cc
      go (a ∷ q) f = let same : a ≡ t.0 = cc in (q, ap (λ (i : ℕ). i ∷ q) same)

  pub moved_none : (to : ℕ) → r.front ≡ None → Stores r.lists (front_moved ls l to (ls l))
  moved_none to e = go (ls l) refl (sym pop.front ∙ ap who_in e)
    where
      go : (v : List ℕ) → ls l ≡ v → front_of v ≡ Nobody → Stores r.lists (front_moved ls l to v)
      go [] f g = subst (Stores r.lists) (put_same ls l (behind (ls l)) (f ∙ ap behind (sym f))) pop.stores
      go (a ∷ q) f g = clash cc

  pub moved_one : (t : TaskNo) (to : ℕ) (after : Lists) → r.front ≡ Some t → Stores after (to_end (put ls l (behind (ls l))) to t.0)
      → Stores after (front_moved ls l to (ls l))
  moved_one t to after e h =
      let p = split t e in
      subst (λ (v : List ℕ). Stores after (front_moved ls l to v)) (sym p.1)
      (subst (λ (v : List ℕ). Stores after (to_end (put ls l v) to t.0)) (ap behind p.1) h)

  -- who was popped may enter any list
  pub popped_enters : (t : TaskNo) (to : ℕ) → r.front ≡ Some t → Numbered to → MayEnter r.lists to t.0
  popped_enters t to e n =
      let p = split t e in
      let here : In t.0 (ls l) = subst (In t.0) (sym p.1) (inl refl) in
      let gone : (In t.0 (behind (ls l)) → ⊥) = λ m. (subst Once p.1 (st.waits.once l)).0 (subst (In t.0) (ap behind p.1) m) in
      record {
        lists = put ls l (behind (ls l));
        stores = pop.stores;
        level = n;
        task = st.waits.task l t.0 here;
        absent = put_all ls l (behind (ls l)) (λ k v. In t.0 v → ⊥) gone (λ k d m. d (st.waits.apart t.0 k l m here));
      }

-- ---- all lists empty

at_none : (n k : ℕ) → at (replicate n nobody) k ≡ 0
at_none zero k = refl
at_none (suc n) zero = refl
at_none (suc n) (suc k) = at_none n k

pub stores_empty : (n : ℕ) → Stores (record { first = replicate n nobody; last = replicate n nobody; next = replicate n nobody; map = 0 }) (λ l. [])
stores_empty n =
    record {
      waits = record { task = λ l x m. absurd m; level = λ l x m. absurd m; once = λ l. tt; apart = λ x i j m k. absurd m };
      first = at_none n;
      last = at_none n;
      next = λ l. tt;
      free = λ x h. at_none n x;
      map = λ k l. zero_bit k;
    }
