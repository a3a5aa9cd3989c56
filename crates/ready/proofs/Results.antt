-- Two results that a contract allows are equal. Assumes nothing.
use mathlib.Core.Path.{◌≡◌, sym, ap₂, ◌∙◌, fun_ext}
use mathlib.Core.List.{List}
use Prim.Native.Nat.{ℕ}
use Rattle.rules.specs.State as Rules
use Rattle.rules.specs.Calls.{met_by}
use Rattle.lists.specs.declared.Lists.{Lists}
use Rattle.lists.specs.Links.{Sized, Stores}
use Rattle.lists.specs.Answers.{Holds}
use Rattle.lists.proofs.Walks.{list_held}
use Rattle.lists.proofs.Determined.{arrays_one}
use Rattle.lists.proofs.Results.{who_one}
use Rattle.ready.specs.declared.Ready.{Ready}
use Rattle.ready.specs.declared.promotion.Promoted.{Promoted}
use Rattle.ready.specs.Keep.{ready_in, Keeps, Keeping, Becomes, Relevels}
use Rattle.ready.specs.Promote.{front_goes, DrainedTo, PromotedTo}
use Rattle.std.specs.Prelude.{Option}
use Rattle.table.specs.declared.TaskNo.{TaskNo}
use Rattle.table.specs.declared.Level.{Level}

-- what is kept is what is read
pub kept_is : {r : Ready} {x : Rules.Ready} → Keeps r x → ready_in r ≡ x
kept_is k = λ i. record { running = k.running i; lists = fun_ext (list_held k.stores) i }

-- what keeps the same is the same
pub keeps_one : {x : Rules.Ready} (a b : Ready) → Sized a.lists → Sized b.lists → Keeps a x → Keeps b x → a ≡ b
keeps_one a b sa sb p q =
    ap₂ (λ (w : Option TaskNo) (s : Lists). record { running = w; lists = s }) (who_one a.running b.running (p.running ∙ sym q.running)) (arrays_one sa sb p.stores q.stores)

-- enter, leave
pub becomes_result : {r : Ready} → Keeping r → (f : Rules.Ready → Rules.Ready) (a b : Ready) → Sized a.lists → Sized b.lists → Becomes r f a → Becomes r f b → a ≡ b
becomes_result h f a b sa sb p q = keeps_one a b sa sb (p h.ready h.keeps) (q h.ready h.keeps)

-- relevel
pub releveled_result : {r : Ready} → Keeping r → (new : ℕ → ℕ) (a b : Promoted Ready) → Sized a.now.lists → Sized b.now.lists → Relevels new r a → Relevels new r b → a ≡ b
releveled_result h new a b sa sb p q =
    ap₂ (λ (x : Ready) (m : ℕ). record { now = x; moves = m }) (becomes_result h _ a.now b.now sa sb p.keeps q.keeps)
    (p.moves h.ready h.keeps ∙ sym (q.moves h.ready h.keeps))

-- `requires` says that there are lists; `ensures` speaks of any
module _ {s : Lists} (h : Holds s) where
  -- meet
  pub met_result : (k l j n : ℕ) (a b : Ready) → Sized a.lists → Sized b.lists
      → ((ls : ℕ → List ℕ) → Stores s ls → Keeps a (met_by k l j n ls)) → ((ls : ℕ → List ℕ) → Stores s ls → Keeps b (met_by k l j n ls)) → a ≡ b
  met_result k l j n a b sa sb p q = keeps_one a b sa sb (p h.lists h.stores) (q h.lists h.stores)

  -- front_next
  pub next_result : (new : ℕ → ℕ) (l : ℕ) (a b : Option Level) → ((ls : ℕ → List ℕ) → Stores s ls → a ≡ front_goes new l (ls l))
      → ((ls : ℕ → List ℕ) → Stores s ls → b ≡ front_goes new l (ls l)) → a ≡ b
  next_result new l a b p q = p h.lists h.stores ∙ sym (q h.lists h.stores)

  module _ (new : ℕ → ℕ) (a b : Promoted Lists) (sa : Sized a.now) (sb : Sized b.now) where
    moved_one : {ls : ℕ → List ℕ} (n : ℕ) → Stores a.now ls → Stores b.now ls → a.moves ≡ n → b.moves ≡ n → a ≡ b
    moved_one n p q i j = ap₂ (λ (r : Lists) (m : ℕ). record { now = r; moves = m }) (arrays_one sa sb p q) (i ∙ sym j)

    -- drain
    pub drained_result : (l : ℕ) → ((ls : ℕ → List ℕ) → Stores s ls → DrainedTo new l ls a) → ((ls : ℕ → List ℕ) → Stores s ls → DrainedTo new l ls b) → a ≡ b
    drained_result l p q = let c = p h.lists h.stores in let d = q h.lists h.stores in moved_one _ c.stores d.stores c.moves d.moves

    -- promote
    pub promoted_result : ((ls : ℕ → List ℕ) → Stores s ls → PromotedTo new ls a) → ((ls : ℕ → List ℕ) → Stores s ls → PromotedTo new ls b) → a ≡ b
    promoted_result p q = let c = p h.lists h.stores in let d = q h.lists h.stores in moved_one _ c.stores d.stores c.moves d.moves
