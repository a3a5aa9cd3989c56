-- What is left of a stored list while it is walked: the number at hand is its front. Assumes nothing.
use mathlib.Core.Path.{◌≡◌, sym, ap, ◌∙◌}
use mathlib.Core.Logic.{inl, inr}
use mathlib.Core.List.{List, [], ◌∷◌, ◌++◌}
use Prim.Native.Nat.{ℕ, ◌+◌, ◌≤◌, ◌<◌}
use native.Mathlib.Omega.{arith}
use native.Mathlib.Numerals.{add-one}
use lib.ListN.{length, set}
use Rattle.laws.specs.Words.{In, behind, Puts}
use Rattle.laws.proofs.Buffers.{Filling, filling_start, filling_room, filling_turn, filling_puts}
use Rattle.rules.specs.Table.{most}
use Rattle.rules.specs.Listing.{pairs_of}
use Rattle.lists.specs.declared.Lists.{Lists}
use Rattle.lists.specs.Links.{Numbered, at, front, Linked, Stores}
use Rattle.lists.proofs.Links.{front_empty}

-- ---- the walk

-- x is the front of q, the links lead through q, and q holds tasks
pub record Rest (next : ℕ → ℕ) (q : List ℕ) (x : ℕ) : Type 0 where
  pub head : x ≡ front q
  pub linked : Linked next q
  pub tasks : (y : ℕ) → In y q → Numbered y

rest_start : {s : Lists} {ls : ℕ → List ℕ} → Stores s ls → (l : ℕ) → Rest (at s.next) (ls l) (at s.first l)
rest_start st l = record { head = st.first l; linked = st.next l; tasks = st.waits.task l }

rest_empty : {next : ℕ → ℕ} {q : List ℕ} {x : ℕ} → Rest next q x → x ≡ 0 → q ≡ []
rest_empty {next} {q} {x} r e = front_empty q r.tasks (sym r.head ∙ e)

-- where x is somebody, it stands first of what is left, and its link names the first of the others
record Turn (next : ℕ → ℕ) (q : List ℕ) (x : ℕ) : Type 0 where
  pub task : Numbered x
  pub first : q ≡ x ∷ behind q
  pub others : Rest next (behind q) (next x)

rest_turn : {next : ℕ → ℕ} {q : List ℕ} {x : ℕ} → Rest next q x → (x ≡ 0 → ⊥) → Turn next q x
rest_turn {next} {q} {x} r h = go q r
  where
    go : (p : List ℕ) → Rest next p x → Turn next p x
    go [] r = absurd (h r.head)
    go (y ∷ p) r =
        record {
          task = r.tasks x (inl r.head);
          first = rw r.head;
          others = record { head = rw r.head r.linked.0; linked = r.linked.1; tasks = λ z m. r.tasks z (inr m) };
        }

-- ---- counted

-- n of the list are passed, and x is the front of the others
pub record Counting (next : ℕ → ℕ) (all : List ℕ) (x n : ℕ) : Type 0 where
  pub left : List ℕ
  pub rest : Rest next left x
  pub count : n + length left ≡ length all

pub counting_start : {s : Lists} {ls : ℕ → List ℕ} → Stores s ls → (l : ℕ) → Counting (at s.next) (ls l) (at s.first l) 0
counting_start {s} {ls} st l = record { left = ls l; rest = rest_start st l; count = omega arith }

module _ {next : ℕ → ℕ} {all : List ℕ} {x n : ℕ} (now : Counting next all x n) where
  pub counting_task : (x ≡ 0 → ⊥) → x ≤ most
  counting_task h = (rest_turn now.rest h).task.high

  -- one more is passed, so fewer than all were before
  pub counting_more : (x ≡ 0 → ⊥) → n < length all
  counting_more h = omega (arith, ap length (rest_turn now.rest h).first, now.count)

  pub counting_turn : (x ≡ 0 → ⊥) → Counting next all (next x) (n + 1)
  counting_turn h =
      let t = rest_turn now.rest h in
      record { left = behind now.left; rest = t.others; count = omega (arith, ap length t.first, now.count) }

  pub counting_end : x ≡ 0 → n ≡ length all
  counting_end e = omega (arith, ap length (rest_empty now.rest e), now.count)

-- ---- written into a buffer

-- the pairs of the passed are in the buffer, up to i, and x is the front of the others
pub record Writing (next : ℕ → ℕ) (l : ℕ) (all : List ℕ) (place : ℕ) (before : List ℕ) (x i : ℕ) (buffer : List ℕ) : Type 0 where
  pub left : List ℕ
  pub rest : Rest next left x
  pub filling : Filling before place (pairs_of l all) i (pairs_of l left) buffer

pub writing_start : {s : Lists} {ls : ℕ → List ℕ} → Stores s ls → (l place : ℕ) (before : List ℕ)
    → Writing (at s.next) l (ls l) place before (at s.first l) place before
writing_start {s} {ls} st l place before = record { left = ls l; rest = rest_start st l; filling = filling_start before place (pairs_of l (ls l)) }

pairs_first : (l x : ℕ) (q : List ℕ) → q ≡ x ∷ behind q → pairs_of l q ≡ (l ∷ x ∷ []) ++ pairs_of l (behind q)
unfolding pairs_of
pairs_first l x q e = ap (pairs_of l) e

pairs_none : (l : ℕ) (q : List ℕ) → q ≡ [] → pairs_of l q ≡ []
unfolding pairs_of
pairs_none l q e = ap (pairs_of l) e

module _ {next : ℕ → ℕ} {l : ℕ} {all : List ℕ} {place : ℕ} {before : List ℕ} {x i : ℕ} {buffer : List ℕ}
    (now : Writing next l all place before x i buffer) where
  pub writing_task : (x ≡ 0 → ⊥) → x ≤ most
  writing_task h = (rest_turn now.rest h).task.high

  pub writing_room : (x ≡ 0 → ⊥) → i + 2 ≤ place + length (pairs_of l all)
  writing_room h = filling_room now.filling (l ∷ x ∷ []) (pairs_of l (behind now.left)) (pairs_first l x now.left (rest_turn now.rest h).first)

  pub writing_turn : (x ≡ 0 → ⊥) → Writing next l all place before (next x) (i + 2) (set (set buffer i l) (i + 1) x)
  writing_turn h =
      let t = rest_turn now.rest h in
      rw (add-one i) (record {
        left = behind now.left;
        rest = t.others;
        filling = filling_turn now.filling (l ∷ x ∷ []) (pairs_of l (behind now.left)) (pairs_first l x now.left t.first);
      })

  nothing_left : x ≡ 0 → pairs_of l now.left ≡ []
  nothing_left e = pairs_none l now.left (rest_empty now.rest e)

  pub writing_end : x ≡ 0 → Puts before place (pairs_of l all) i buffer
  writing_end e = filling_puts now.filling (nothing_left e)
