-- What stands at a place of a stream, by the table of marks. Assumes nothing.
use mathlib.Core.Path.{◌≡◌, refl, sym, ap, subst, ◌∙◌}
use mathlib.Core.Logic.{◌⊎◌, inl, inr, ⊎_elim}
use mathlib.Core.List.{List, [], ◌∷◌}
use Prim.Native.Nat.{ℕ, ◌+◌, ◌≤◌, ◌<◌}
use native.Mathlib.Omega.{arith}
use borrow.Author.Tests.{eqb-true, eq-eqb, leb-true, leb-false}
use lib.Dec.{eqb, leb}
use lib.ListN.{length}
use Rattle.laws.specs.Words.{pick, In}
use Rattle.laws.proofs.Bools.{both_true, false_not, either}
use Rattle.rules.specs.Table.{Task}
use Rattle.rules.specs.Calls.{Call}
use Rattle.rules.specs.Records.{Record, TaskRecord, EventRecord, Mark, task_mark, release_mark, done_mark, clock_mark, marks, Found, End, Read, Bad, has_mark, read_by, whole_or_cut, found_by, record_at}
use Rattle.rules.specs.Refusals.{HasMark, RecordOf, UnknownMark, CutOff}

-- ---- the table of marks

-- what holds of each mark of the table
each_mark : (P : Mark → Type 0) → P task_mark → P release_mark → P done_mark → P clock_mark → (m : Mark) → In m marks → P m
each_mark P a b c d m (inl e) = subst P (sym e) a
each_mark P a b c d m (inr (inl e)) = subst P (sym e) b
each_mark P a b c d m (inr (inr (inl e))) = subst P (sym e) c
each_mark P a b c d m (inr (inr (inr (inl e)))) = subst P (sym e) d
each_mark P a b c d m (inr (inr (inr (inr none)))) = elim none [ ]

-- one is the task records'; the others are events'
pub task_or_event : (m : Mark) → In m marks → (m ≡ task_mark) ⊎ (m ≡ task_mark → ⊥)
task_or_event = each_mark (λ m. (m ≡ task_mark) ⊎ (m ≡ task_mark → ⊥)) (inl refl) (inr (differs (omega arith))) (inr (differs (omega arith))) (inr (differs (omega arith)))
  where
    differs : {m : Mark} → (m.second ≡ 75 → ⊥) → m ≡ task_mark → ⊥
    differs h e = h (ap (λ (x : Mark). x.second) e)

-- each mark's record has at least six bytes
pub six_bytes : (m : Mark) → In m marks → 6 ≤ m.size
six_bytes = each_mark (λ m. 6 ≤ m.size) (omega arith) (omega arith) (omega arith) (omega arith)

-- the mark with this second byte: no two of the table have the same
abbrev mark_by : ℕ → Mark
mark_by b = pick (eqb b 75) task_mark (pick (eqb b 76) release_mark (pick (eqb b 78) done_mark clock_mark))

mark_is_by : (m : Mark) → In m marks → mark_by m.second ≡ m
mark_is_by = each_mark (λ m. mark_by m.second ≡ m) refl refl refl refl

-- ---- at one place

module _ (s : List ℕ) (n : ℕ) where
  one_mark : (m k : Mark) → In m marks → In k marks → HasMark s n m → HasMark s n k → m ≡ k
  one_mark m k i j h g = sym (mark_is_by m i) ∙ ap mark_by (sym h.1 ∙ g.1) ∙ mark_is_by k j

  -- the first of these marks that the two bytes are, if there is one
  by_cases : (P : Found → Type 0) (ms : List Mark) → ((m : Mark) → In m ms → HasMark s n m → n + m.size ≤ length s → P (read_by s n m))
      → ((m : Mark) → In m ms → HasMark s n m → length s < n + m.size → P Bad) → (((m : Mark) → In m ms → HasMark s n m → ⊥) → P Bad) → P (found_by ms s n)
  unfolding found_by
  by_cases P [] read cut none = none (λ m i. absurd i)
  by_cases P (m ∷ ms) read cut none =
      either P (has_mark s n m) (whole_or_cut s n m) (found_by ms s n)
      (λ t. let h = both_true _ _ t in
      let mark : HasMark s n m = (eqb-true _ _ h.0, eqb-true _ _ h.1) in
      either P (leb (n + m.size) (length s)) (read_by s n m) Bad (λ w. read m (inl refl) mark (leb-true _ _ w)) (λ w. cut m (inl refl) mark (leb-false _ _ w)))
      (λ f. by_cases P ms (λ k i. read k (inr i)) (λ k i. cut k (inr i))
      (λ h. none (λ k i g. ⊎_elim (λ e. false_not {A = HasMark s n m} (has_mark s n m) (λ x. rw (eq-eqb _ _ x.0, eq-eqb _ _ x.1)) f (subst (HasMark s n) e g)) (λ j. h k j g) i)))

  -- the stream ends, or a record stands there, or one that cannot be read
  pub record_cases : (P : Found → Type 0) → (length s ≤ n → P End) → ((m : Mark) → n < length s → RecordOf s n m → P (read_by s n m))
      → (n < length s → UnknownMark s n ⊎ CutOff s n → P Bad) → P (record_at s n)
  unfolding record_at
  record_cases P end read bad =
      either P (leb (length s) n) End (found_by marks s n) (λ e. end (leb-true _ _ e))
      (λ e. let l : n < length s = leb-false _ _ e in
      by_cases P marks (λ m i h w. read m l (record { known = i; mark = h; within = w })) (λ m i h c. bad l (inr (m, i, h, c))) (λ h. bad l (inl h)))

  -- both cannot be
  read_or_bad : {X : Type 0} (m : Mark) → RecordOf s n m → UnknownMark s n ⊎ CutOff s n → X
  read_or_bad m r (inl h) = absurd (h m r.known r.mark)
  read_or_bad m r (inr (k, i, h, c)) = let e : m.size ≡ k.size = ap (λ (x : Mark). x.size) (one_mark m k r.known i r.mark h) in
      let w : n + m.size ≤ length s = r.within in
      let z : ⊥ = omega arith in
      absurd z

  pub read_at : (m : Mark) → RecordOf s n m → record_at s n ≡ read_by s n m
  read_at m r =
      record_cases (λ f. f ≡ read_by s n m)
      (λ e. let w : n + m.size ≤ length s = r.within in let z : ⊥ = omega (arith, six_bytes m r.known) in absurd z)
      (λ k l q. ap (read_by s n) (one_mark k m q.known r.known q.mark r.mark)) (λ l b. read_or_bad m r b)

  pub bad_at : n < length s → UnknownMark s n ⊎ CutOff s n → record_at s n ≡ Bad
  bad_at l b =
      record_cases (λ f. f ≡ Bad) (λ e. let z : ⊥ = omega arith in absurd z) (λ m _ r. read_or_bad m r b) (λ _ _. refl)

  -- a task record says a task, and each other an event
  pub task_at : (m : Mark) → m ≡ task_mark → RecordOf s n m → (x : Task) × (record_at s n ≡ Read (TaskRecord x) m.size)
  task_at m e r = (_, read_at m r ∙ ap (λ (k : Mark). Read (k.says s n) m.size) e)

  pub event_at : (m : Mark) → (m ≡ task_mark → ⊥) → RecordOf s n m → (c : Call) × (record_at s n ≡ Read (EventRecord c) m.size)
  event_at m d r = let (c, e) = says in (c, read_at m r ∙ ap (λ (x : Record). Read x m.size) e)
    where
      says : (c : Call) × (m.says s n ≡ EventRecord c)
      says = each_mark (λ k. (k ≡ task_mark → ⊥) → (c : Call) × (k.says s n ≡ EventRecord c)) (λ f. absurd (f refl)) (λ _. (_, refl)) (λ _. (_, refl)) (λ _. (_, refl)) m r.known d
