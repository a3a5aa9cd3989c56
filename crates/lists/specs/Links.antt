-- When arrays of links and a map store lists: a list of task numbers for each level, as the rules have them.
use Rattle.std.specs.Prelude.{ℕ, suc, ◌≤◌, ◌<◌, ◌^◌, ◌≡◌, Bool, true, false, List, [], ◌∷◌, length, get_or}
use Rattle.laws.specs.Words.{digit, In}
use Rattle.laws.specs.Bits.{bit_at}
use Rattle.rules.specs.Table.{most}
use Rattle.table.specs.declared.TaskNo.{TaskNo}
use Rattle.lists.specs.declared.Lists.{Lists}

-- ---- lists of jobs

-- "Task numbers and levels both run from 1 to [64]"
pub record Numbered (k : ℕ) : Type 0 where
  pub low : 1 ≤ k
  pub high : k ≤ most

-- no number twice
abbrev pub Once : List ℕ → Type 0
Once [] = Unit {0}
Once (x ∷ q) = (In x q → ⊥) × Once q

-- x waits nowhere
abbrev pub Absent : ℕ → (ℕ → List ℕ) → Type 0
Absent x ls = (l : ℕ) → In x (ls l) → ⊥

-- jobs of tasks wait in lists of levels, each once
pub record Waits (ls : ℕ → List ℕ) : Type 0 where
  pub task : (l x : ℕ) → In x (ls l) → Numbered x
  pub level : (l x : ℕ) → In x (ls l) → Numbered l
  pub once : (l : ℕ) → Once (ls l)
  pub apart : (x i j : ℕ) → In x (ls i) → In x (ls j) → i ≡ j

-- ---- links

-- what the types alone say: the arrays are as long as their type says, and the map has a bit for each level
pub record Sized (s : Lists) : Type 0 where
  pub first : length s.first ≡ suc most
  pub last : length s.last ≡ suc most
  pub next : length s.next ≡ suc most
  pub map : s.map < 2 ^ most

abbrev pub nobody : TaskNo
nobody = record { 0 = 0 }

-- the number at a place of an array; 0, nobody's, past its end
abbrev pub at : List TaskNo → ℕ → ℕ
at a k = (get_or a k nobody).0

-- the first of a list; 0 where it is empty
abbrev pub front : List ℕ → ℕ
front [] = 0
front (x ∷ q) = x

-- the last of a list; z where it is empty
abbrev pub back : ℕ → List ℕ → ℕ
back z [] = z
back z (x ∷ q) = back x q

-- each one's link names the one behind it; that of the last, nobody
abbrev pub Linked : (ℕ → ℕ) → List ℕ → Type 0
Linked next [] = Unit {0}
Linked next (x ∷ q) = (next x ≡ front q) × Linked next q

-- whether a list holds a job
abbrev pub occupied : List ℕ → Bool
occupied [] = false
occupied (x ∷ q) = true

-- the arrays and the map store the lists `ls`, and nothing else: every place of the arrays is told
pub record Stores (s : Lists) (ls : ℕ → List ℕ) : Type 0 where
  pub waits : Waits ls
  pub first : (l : ℕ) → at s.first l ≡ front (ls l)
  pub last : (l : ℕ) → at s.last l ≡ back 0 (ls l)
  pub next : (l : ℕ) → Linked (at s.next) (ls l)
  -- who waits nowhere has no link
  pub free : (x : ℕ) → Absent x ls → at s.next x ≡ 0
  -- "the map of occupied lists tells the truth": bit 0 is the list of level 1
  pub map : (k : ℕ) → k < most → bit_at s.map k ≡ digit (occupied (ls (suc k)))
