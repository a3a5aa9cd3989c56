-- Arrays and map determine the lists, and the lists determine arrays and map; what the map says. Assumes nothing.
use mathlib.Core.Path.{◌≡◌, sym, ap, ◌∙◌, subst, fun_ext}
use mathlib.Core.Bool.{true, false}
use mathlib.Core.Logic.{◌⊎◌, inl, inr, ⊎_elim}
use mathlib.Core.List.{List, [], ◌∷◌}
use Prim.Native.Nat.{ℕ, zero, suc, ◌-◌, ◌<◌}
use native.Mathlib.Decide.{ℕ_discrete}
use native.Mathlib.Omega.{arith}
use lib.ListN.{length}
use lib.Seq.{ext_get_or}
use Rattle.laws.specs.Words.{digit, In}
use Rattle.laws.specs.Bits.{bit_at}
use Rattle.laws.proofs.Bools.{digit_true, digit_false}
use Rattle.laws.proofs.Bits.{same_bits}
use Rattle.rules.specs.Table.{most}
use Rattle.table.specs.declared.TaskNo.{TaskNo}
use Rattle.lists.specs.declared.Lists.{Lists}
use Rattle.lists.specs.Links.{Numbered, Absent, Waits, Sized, nobody, at, Linked, occupied, Stores}
use Rattle.lists.specs.Answers.{MayEnter}
use Rattle.lists.proofs.Walks.{list_held}

-- ---- the lists are determined

-- arrays store one family of lists: the one that their links lead along
pub lists_one : {s : Lists} {ls ms : ℕ → List ℕ} → Stores s ls → Stores s ms → ls ≡ ms
lists_one st mt = fun_ext (λ l. sym (list_held st l) ∙ list_held mt l)

-- who may enter waits in none of the lists that are stored
pub enters_absent : {s : Lists} {ls : ℕ → List ℕ} {l x : ℕ} → Stores s ls → MayEnter s l x → Absent x ls
enters_absent {s} {ls} {l} {x} st may = subst (Absent x) (lists_one may.stores st) may.absent

-- ---- the arrays and the map are determined

array_one : (a b : List TaskNo) (n : ℕ) → length a ≡ n → length b ≡ n → ((k : ℕ) → at a k ≡ at b k) → a ≡ b
array_one a b n h g e = ext_get_or nobody a b (h ∙ sym g) (λ k l. ap (λ (i : ℕ). record { 0 = i }) (e k))

linked_same : (n m : ℕ → ℕ) (q : List ℕ) → Linked n q → Linked m q → (x : ℕ) → In x q → n x ≡ m x
linked_same n m [] k j x i = elim i [ ]
linked_same n m (a ∷ q) k j x (inl e) = ap n e ∙ k.0 ∙ sym j.0 ∙ ap m (sym e)
linked_same n m (a ∷ q) k j x (inr i) = linked_same n m q k.1 j.1 x i

in_or_not : (x : ℕ) (q : List ℕ) → In x q ⊎ (In x q → ⊥)
in_or_not x [] = inr (λ m. m)
in_or_not x (a ∷ q) = go (ℕ_discrete x a) (in_or_not x q)
  where
    go : Dec (x ≡ a) → In x q ⊎ (In x q → ⊥) → In x (a ∷ q) ⊎ (In x (a ∷ q) → ⊥)
    go (yes e) h = inl (inl e)
    go (no d) (inl m) = inl (inr m)
    go (no d) (inr h) = inr (λ m. ⊎_elim d h m)

-- x waits in one of the lists below n, or in none of them
somewhere : (ls : ℕ → List ℕ) (x n : ℕ) → ((l : ℕ) × In x (ls l)) ⊎ ((l : ℕ) → l < n → In x (ls l) → ⊥)
somewhere ls x zero = inr (λ l h m. let no : ⊥ = omega arith in no)
somewhere ls x (suc n) = go (in_or_not x (ls n)) (somewhere ls x n)
  where
    go : In x (ls n) ⊎ (In x (ls n) → ⊥) → ((l : ℕ) × In x (ls l)) ⊎ ((l : ℕ) → l < n → In x (ls l) → ⊥)
        → ((l : ℕ) × In x (ls l)) ⊎ ((l : ℕ) → l < suc n → In x (ls l) → ⊥)
    go (inl m) h = inl (n, m)
    go (inr g) (inl h) = inl h
    go (inr g) (inr h) = inr (λ l b m. at l b m (ℕ_discrete l n))
      where
        at : (l : ℕ) → l < suc n → In x (ls l) → Dec (l ≡ n) → ⊥
        at l b m (yes e) = g (subst (λ (k : ℕ). In x (ls k)) e m)
        at l b m (no d) = h l (omega arith) m

-- x waits in a list, or nowhere
pub waits_or_absent : {ls : ℕ → List ℕ} → Waits ls → (x : ℕ) → ((l : ℕ) × In x (ls l)) ⊎ Absent x ls
waits_or_absent {ls} w x = ⊎_elim (λ h. inl h) (λ h. inr (λ l m. h l (let n : Numbered l = w.level l x m in omega (arith, n.high)) m)) (somewhere ls x (suc most))

-- what stores the same lists is the same
pub arrays_one : {s r : Lists} {ls : ℕ → List ℕ} → Sized s → Sized r → Stores s ls → Stores r ls → s ≡ r
arrays_one {s} {r} {ls} sz rz st rt =
    let f : s.first ≡ r.first = array_one s.first r.first (suc most) sz.first rz.first (λ l. st.first l ∙ sym (rt.first l)) in
    let b : s.last ≡ r.last = array_one s.last r.last (suc most) sz.last rz.last (λ l. st.last l ∙ sym (rt.last l)) in
    let n : s.next ≡ r.next = array_one s.next r.next (suc most) sz.next rz.next link in
    let m : s.map ≡ r.map = same_bits most s.map r.map sz.map rz.map (λ k l. st.map k l ∙ sym (rt.map k l)) in
    λ i. record { first = f i; last = b i; next = n i; map = m i }
  where
    link : (x : ℕ) → at s.next x ≡ at r.next x
    link x =
        ⊎_elim (λ h. linked_same (at s.next) (at r.next) (ls h.0) (st.next h.0) (rt.next h.0) x h.1)
        (λ h. st.free x h ∙ sym (rt.free x h)) (waits_or_absent st.waits x)

-- ---- the map

module _ {s : Lists} {ls : ℕ → List ℕ} (st : Stores s ls) (l : ℕ) (level : Numbered l) where
  bit_is : bit_at s.map (l - 1) ≡ digit (occupied (ls l))
  bit_is = let p : suc (l - 1) ≡ l = omega (arith, level.low) in st.map (l - 1) (omega (arith, level.low, level.high)) ∙ ap (λ (k : ℕ). digit (occupied (ls k))) p

  -- a bit is set exactly when its list holds a job
  pub bit_occupied : bit_at s.map (l - 1) ≡ 1 → occupied (ls l) ≡ true
  bit_occupied e = digit_true (occupied (ls l)) (omega (arith, e, bit_is))

  pub occupied_bit : occupied (ls l) ≡ true → bit_at s.map (l - 1) ≡ 1
  occupied_bit e = bit_is ∙ ap digit e

  pub bit_empty : bit_at s.map (l - 1) ≡ 0 → occupied (ls l) ≡ false
  bit_empty e = digit_false (occupied (ls l)) (sym bit_is ∙ e)
