-- A listing's bytes against the lists that it names. Assumes nothing.
use mathlib.Core.Path.{◌≡◌, refl, sym, ap, ◌∙◌, subst}
use mathlib.Core.Logic.{◌⊎◌, inl, inr, ⊎_elim}
use mathlib.Core.List.{List, [], ◌∷◌, ◌++◌, append_assoc}
use Prim.Native.Nat.{ℕ, zero, suc, ◌+◌, ◌*◌, ◌/◌, ◌≤◌, ◌<◌}
use native.Mathlib.Decide.{ℕ_discrete}
use native.Mathlib.Omega.{arith}
use lib.ListN.{length, get_or, drop, length-append, get_or-append}
use lib.Seq.{ext_get_or, get_or_at}
use Rattle.laws.specs.Words.{In, joined, Puts}
use Rattle.laws.proofs.Buffers.{puts_written}
use Rattle.laws.proofs.Orders.{long_none}
use Rattle.rules.specs.Table.{most}
use Rattle.rules.specs.State.{highest, listing}
use Rattle.rules.specs.Listing.{pairs_of, listing_bytes}
use Rattle.rules.proofs.Listings.{bytes_twice}
use Rattle.lists.specs.declared.Lists.{Lists}
use Rattle.lists.specs.Links.{Numbered, Waits, Stores}
use Rattle.lists.proofs.Together.{listing_few}
use Rattle.queue.specs.Row.{byte_level, byte_task, row_tasks}

-- ---- the tasks of the first n

pub tasks_length : (bytes : List ℕ) (n : ℕ) → length (row_tasks bytes n) ≡ n
unfolding row_tasks
tasks_length bytes zero = refl
tasks_length bytes (suc n) = omega (arith, length-append (row_tasks bytes n) (byte_task bytes n ∷ []), tasks_length bytes n)

pub tasks_at : (bytes : List ℕ) (n i : ℕ) → i < n → get_or (row_tasks bytes n) i 0 ≡ byte_task bytes i
unfolding row_tasks
tasks_at bytes zero i h = let z : ⊥ = omega arith in absurd z
tasks_at bytes (suc n) i h = go (ℕ_discrete i n) (tasks_at bytes n i)
  where
    go : Dec (i ≡ n) → (i < n → get_or (row_tasks bytes n) i 0 ≡ byte_task bytes i) → get_or (row_tasks bytes n ++ byte_task bytes n ∷ []) i 0 ≡ byte_task bytes i
    go (yes e) f = get_or_at (row_tasks bytes n) (byte_task bytes n) [] 0 i (tasks_length bytes n ∙ sym e) ∙ ap (byte_task bytes) (sym e)
    go (no d) f = get_or-append (row_tasks bytes n) (byte_task bytes n ∷ []) 0 i (omega (arith, tasks_length bytes n)) ∙ f (omega arith)

-- ---- bytes that begin with the pairs of these tasks

-- the pairs are exactly those in P
record Spells (P : ℕ → ℕ → Type 0) (bytes tasks : List ℕ) : Type 0 where
  task : (i : ℕ) → i < length tasks → byte_task bytes i ≡ get_or tasks i 0
  pair : (i : ℕ) → i < length tasks → P (byte_level bytes i) (byte_task bytes i)
  every : (l k : ℕ) → P l k → (i : ℕ) × (i < length tasks) × (l ≡ byte_level bytes i) × (k ≡ byte_task bytes i)

-- behind a pair, the next place is two bytes on
level_behind : (a b : ℕ) (bytes : List ℕ) (i : ℕ) → byte_level bytes i ≡ byte_level (a ∷ b ∷ bytes) (suc i)
level_behind a b bytes i = let e : suc (suc (2 * i)) ≡ 2 * suc i = omega arith in ap (λ (n : ℕ). get_or (a ∷ b ∷ bytes) n 0) e

task_behind : (a b : ℕ) (bytes : List ℕ) (i : ℕ) → byte_task bytes i ≡ byte_task (a ∷ b ∷ bytes) (suc i)
task_behind a b bytes i = let e : suc (suc (2 * i + 1)) ≡ 2 * suc i + 1 = omega arith in ap (λ (n : ℕ). get_or (a ∷ b ∷ bytes) n 0) e

-- one pair more in front
spells_one : {P : ℕ → ℕ → Type 0} {bytes tasks : List ℕ} → Spells P bytes tasks → (a b : ℕ)
    → Spells (λ l k. ((l ≡ a) × (k ≡ b)) ⊎ P l k) (a ∷ b ∷ bytes) (b ∷ tasks)
spells_one {P} {bytes} {tasks} s a b = record { task = task; pair = pair; every = every }
  where
    task : (i : ℕ) → i < length (b ∷ tasks) → byte_task (a ∷ b ∷ bytes) i ≡ get_or (b ∷ tasks) i 0
    task zero h = refl
    task (suc i) h = sym (task_behind a b bytes i) ∙ s.task i (omega arith)

    pair : (i : ℕ) → i < length (b ∷ tasks)
        → ((byte_level (a ∷ b ∷ bytes) i ≡ a) × (byte_task (a ∷ b ∷ bytes) i ≡ b)) ⊎ P (byte_level (a ∷ b ∷ bytes) i) (byte_task (a ∷ b ∷ bytes) i)
    pair zero h = inl (refl, refl)
    pair (suc i) h = inr (rw (← level_behind a b bytes i, ← task_behind a b bytes i) (s.pair i (omega arith)))

    every : (l k : ℕ) → ((l ≡ a) × (k ≡ b)) ⊎ P l k
        → (i : ℕ) × (i < suc (length tasks)) × (l ≡ byte_level (a ∷ b ∷ bytes) i) × (k ≡ byte_task (a ∷ b ∷ bytes) i)
    every l k (inl e) = (0, omega arith, e.0, e.1)
    every l k (inr p) = let (i, h, e, f) = s.every l k p in (suc i, omega arith, e ∙ level_behind a b bytes i, f ∙ task_behind a b bytes i)

spells_same : {P : ℕ → ℕ → Type 0} {bytes tasks : List ℕ} → Spells P bytes tasks → (Q : ℕ → ℕ → Type 0) → ((l k : ℕ) → P l k → Q l k)
    → ((l k : ℕ) → Q l k → P l k) → Spells Q bytes tasks
spells_same s Q f g = record { task = s.task; pair = λ i h. f _ _ (s.pair i h); every = λ l k q. s.every l k (g l k q) }

-- the pairs of a list in front
spells_pairs : {P : ℕ → ℕ → Type 0} {bytes tasks : List ℕ} → Spells P bytes tasks → (a : ℕ) (q : List ℕ)
    → Spells (λ l k. ((l ≡ a) × In k q) ⊎ P l k) (pairs_of a q ++ bytes) (q ++ tasks)
unfolding pairs_of
spells_pairs s a [] = spells_same s _ (λ l k p. inr p) (λ l k. ⊎_elim (λ e. absurd e.1) (λ p. p))
spells_pairs s a (b ∷ q) =
    spells_same (spells_one (spells_pairs s a q) a b) _
    (λ l k. ⊎_elim (λ e. inl (e.0, inl e.1)) (⊎_elim (λ e. inl (e.0, inr e.1)) (λ p. inr p)))
    (λ l k. ⊎_elim (λ e. ⊎_elim (λ f. inl (e.0, f)) (λ m. inr (inl (e.0, m))) e.1) (λ p. inr (inr p)))

-- n lists from the one at a on
spells_joined : (ls : ℕ → List ℕ) (rest : List ℕ) (n a : ℕ)
    → Spells (λ l k. (a ≤ l) × (l < a + n) × In k (ls l)) (joined (λ l. pairs_of l (ls l)) n a ++ rest) (joined ls n a)
unfolding joined
spells_joined ls rest zero a =
    record { task = λ i h. omega arith; pair = λ i h. let z : ⊥ = omega arith in absurd z; every = λ l k p. let z : ⊥ = omega arith in absurd z }
spells_joined ls rest (suc n) a =
    rw (append_assoc (pairs_of a (ls a)) (joined (λ l. pairs_of l (ls l)) n (suc a)) rest)
    (spells_same (spells_pairs (spells_joined ls rest n (suc a)) a (ls a)) _
    (λ l k. ⊎_elim (λ e. (omega arith, omega arith, subst (λ (j : ℕ). In k (ls j)) (sym e.0) e.1)) (λ p. (omega arith, omega arith, p.2)))
    (λ l k p. go l k (ℕ_discrete l a) p))
  where
    go : (l k : ℕ) → Dec (l ≡ a) → (a ≤ l) × (l < a + suc n) × In k (ls l)
        → ((l ≡ a) × In k (ls a)) ⊎ ((suc a ≤ l) × (l < suc a + n) × In k (ls l))
    go l k (yes e) p = inl (e, rw e at p.2)
    go l k (no d) p = inr (omega arith, omega arith, p.2)

-- ---- the listing

module _ {ls : ℕ → List ℕ} (w : Waits ls) where
  spells_listing : (rest : List ℕ) → Spells (λ l k. In k (ls l)) (listing_bytes ls ++ rest) (listing ls)
  unfolding listing listing_bytes
  spells_listing rest =
      spells_same (spells_joined ls rest highest 1) (λ l k. In k (ls l)) (λ l k p. p.2)
      (λ l k m. let n : Numbered l = w.level l k m in (n.low, omega (arith, n.high), m))

pub listing_room : {s : Lists} {ls : ℕ → List ℕ} → Stores s ls → length (listing_bytes ls) ≤ 2 * most
listing_room {ls = ls} st = omega (arith, bytes_twice ls, listing_few st.waits)

-- what is read of a listing: n pairs, the waiting jobs and the numbers of their lists
pub record Read (ls : ℕ → List ℕ) (bytes : List ℕ) (n : ℕ) : Type 0 where
  pub size : n ≡ length (listing ls)
  pub few : n ≤ most
  pub tasks : row_tasks bytes n ≡ listing ls
  pub pair : (i : ℕ) → i < n → In (byte_task bytes i) (ls (byte_level bytes i))
  pub every : (l k : ℕ) → In k (ls l) → (i : ℕ) × (i < n) × (l ≡ byte_level bytes i) × (k ≡ byte_task bytes i)

pub listing_read : {s : Lists} {ls : ℕ → List ℕ} → Stores s ls → (before after : List ℕ) (end : ℕ) → length (listing_bytes ls) ≤ length before
    → Puts before 0 (listing_bytes ls) end after → Read ls after (end / 2)
listing_read {ls = ls} st before after end room w =
    let half : end / 2 ≡ length (listing ls) = omega (arith, w.size, bytes_twice ls) in
    rw (half, puts_written room w) (read (drop (length (listing_bytes ls)) before))
  where
    read : (rest : List ℕ) → Read ls (listing_bytes ls ++ rest) (length (listing ls))
    read rest =
        let p = spells_listing st.waits rest in
        let bytes : List ℕ = listing_bytes ls ++ rest in
        let n : ℕ = length (listing ls) in
        record {
          size = refl;
          few = listing_few st.waits;
          tasks =
              ext_get_or 0 (row_tasks bytes n) (listing ls) (tasks_length bytes n)
              (λ i h. let b : i < n = omega (arith, tasks_length bytes n) in tasks_at bytes n i b ∙ p.task i b);
          pair = p.pair;
          every = p.every;
        }

-- ---- nobody waits

module _ (ls : ℕ → List ℕ) {before after : List ℕ} {end : ℕ} (listed : Puts before 0 (listing_bytes ls) end after) where
  pub none_listed : end ≡ 0 → listing ls ≡ []
  none_listed e = long_none (listing ls) (omega (arith, listed.size, bytes_twice ls))

  pub listed_none : listing ls ≡ [] → end ≡ 0
  listed_none e = omega (arith, listed.size, bytes_twice ls, ap length e)
