-- Two results that a contract allows are equal, where the contract speaks of any lists that are stored, or of marks. Assumes nothing.
use mathlib.Core.Path.{◌≡◌, refl, sym, ap, ap₂, ◌∙◌}
use mathlib.Core.List.{List, []}
use Prim.Native.Nat.{ℕ, suc}
use native.Mathlib.Omega.{arith}
use lib.ListN.{replicate, length-replicate}
use Rattle.std.specs.Prelude.{None, Option, Some}
use Rattle.laws.specs.Words.{Puts}
use Rattle.laws.proofs.Buffers.{puts_one}
use Rattle.rules.specs.Table.{most}
use Rattle.rules.specs.State.{Running, Nobody, One}
use Rattle.table.specs.declared.TaskNo.{TaskNo}
use Rattle.lists.specs.declared.Lists.{Lists}
use Rattle.lists.specs.declared.Popped.{Popped}
use Rattle.lists.specs.Links.{Sized, nobody, Stores}
use Rattle.lists.specs.Answers.{who_in, PopsFrom, Holds}
use Rattle.lists.proofs.Determined.{arrays_one}
use Rattle.lists.proofs.Operations.{stores_empty}

-- an answer that says the same is the same
who_said : Running → Option TaskNo
who_said Nobody = None
who_said (One k) = Some (record { 0 = k })

who_same : (a : Option TaskNo) → who_said (who_in a) ≡ a
unfolding who_said
who_same None = refl
who_same (Some k) = refl

pub who_one : (a b : Option TaskNo) → who_in a ≡ who_in b → a ≡ b
who_one a b e = sym (who_same a) ∙ ap who_said e ∙ who_same b

-- `requires` says that there are lists; `ensures` speaks of any
module _ {s : Lists} (h : Holds s) where
  -- push_front, push_back, move_front
  pub lists_result : (f : (ℕ → List ℕ) → ℕ → List ℕ) (a b : Lists) → Sized a → Sized b
      → ((ls : ℕ → List ℕ) → Stores s ls → Stores a (f ls)) → ((ls : ℕ → List ℕ) → Stores s ls → Stores b (f ls)) → a ≡ b
  lists_result f a b sa sb p q = arrays_one sa sb (p h.lists h.stores) (q h.lists h.stores)

  -- pop_front
  pub pop_result : (l : ℕ) (a b : Popped) → Sized a.lists → Sized b.lists
      → ((ls : ℕ → List ℕ) → Stores s ls → PopsFrom ls l a) → ((ls : ℕ → List ℕ) → Stores s ls → PopsFrom ls l b) → a ≡ b
  pop_result l a b sa sb p q =
      let c = p h.lists h.stores in
      let d = q h.lists h.stores in
      ap₂ (λ (w : Option TaskNo) (r : Lists). record { front = w; lists = r }) (who_one a.front b.front (c.front ∙ sym d.front))
      (arrays_one sa sb c.stores d.stores)

  -- front
  pub front_result : (f : (ℕ → List ℕ) → Running) (a b : Option TaskNo)
      → ((ls : ℕ → List ℕ) → Stores s ls → who_in a ≡ f ls) → ((ls : ℕ → List ℕ) → Stores s ls → who_in b ≡ f ls) → a ≡ b
  front_result f a b p q = who_one a b (p h.lists h.stores ∙ sym (q h.lists h.stores))

  -- lowest, lowest_from, length_of, waiting
  pub value_result : {X : Type 0} (f : (ℕ → List ℕ) → X) (a b : X)
      → ((ls : ℕ → List ℕ) → Stores s ls → a ≡ f ls) → ((ls : ℕ → List ℕ) → Stores s ls → b ≡ f ls) → a ≡ b
  value_result f a b p q = p h.lists h.stores ∙ sym (q h.lists h.stores)

  -- list_into, list_all: the place behind, and every byte of the buffer
  pub listed_result : (f : (ℕ → List ℕ) → List ℕ) (before : List ℕ) (place a b : ℕ) (x y : List ℕ)
      → ((ls : ℕ → List ℕ) → Stores s ls → Puts before place (f ls) a x) → ((ls : ℕ → List ℕ) → Stores s ls → Puts before place (f ls) b y)
      → (a ≡ b) × (x ≡ y)
  listed_result f before place a b x y p q = let e = puts_one (q h.lists h.stores) (p h.lists h.stores) in (e.1, e.0)

-- arrays that store no job are zeros, and so is the map
pub zero_lists : {s : Lists} → Sized s → Stores s (λ l. []) → s ≡ record { first = replicate (suc most) nobody; last = replicate (suc most) nobody; next = replicate (suc most) nobody; map = 0 }
zero_lists sz st =
    arrays_one sz
    (record { first = length-replicate (suc most) nobody; last = length-replicate (suc most) nobody; next = length-replicate (suc most) nobody; map = omega arith })
    st (stores_empty (suc most))
