-- Arrays of task numbers as families: what is stored in them, and what they store. Assumes nothing.
use mathlib.Core.Path.{◌≡◌, sym, subst}
use mathlib.Core.List.{List}
use Prim.Native.Nat.{ℕ, ◌<◌}
use lib.ListN.{length, set}
use Rattle.laws.specs.Words.{put}
use Rattle.laws.proofs.Families.{set_put}
use Rattle.table.specs.declared.TaskNo.{TaskNo}
use Rattle.lists.specs.declared.Lists.{Lists}
use Rattle.lists.specs.Links.{nobody, at, Stores}
use Rattle.lists.proofs.Links.{StoredBy}

-- a store is a change of the family at one place
pub at_set : (a : List TaskNo) (i : ℕ) (t : TaskNo) → i < length a → at (set a i t) ≡ put (at a) i t.0
at_set a i t h = set_put (λ (j : ℕ) (u : TaskNo). u.0) a i t nobody h

pub stored_by : {s : Lists} {ls : ℕ → List ℕ} → Stores s ls → StoredBy (at s.first) (at s.last) (at s.next) s.map ls
stored_by st =
    record { waits = st.waits; first = st.first; last = st.last; next = st.next; free = st.free; map = st.map }

-- arrays that are these families store what these store
pub stores : (f b n : List TaskNo) (m : ℕ) (F B N : ℕ → ℕ) {ls : ℕ → List ℕ} → at f ≡ F → at b ≡ B → at n ≡ N → StoredBy F B N m ls
    → Stores (record { first = f; last = b; next = n; map = m }) ls
stores f b n m F B N {ls} p q r st =
    let k : StoredBy (at f) (at b) (at n) m ls =
    subst (λ (X : ℕ → ℕ). StoredBy X (at b) (at n) m ls) (sym p)
    (subst (λ (X : ℕ → ℕ). StoredBy F X (at n) m ls) (sym q) (subst (λ (X : ℕ → ℕ). StoredBy F B X m ls) (sym r) st)) in
    record { waits = k.waits; first = k.first; last = k.last; next = k.next; free = k.free; map = k.map }
