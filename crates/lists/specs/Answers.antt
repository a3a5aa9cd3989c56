-- What the operations ask and answer, in lists.
use Rattle.std.specs.Prelude.{ℕ, zero, suc, ◌+◌, ◌≤◌, ◌≡◌, List, [], ◌∷◌, length, Option, None, Some}
use Rattle.laws.specs.Words.{behind, put}
use Rattle.rules.specs.State.{Running, Nobody, One}
use Rattle.rules.specs.Calls.{to_end, front_of}
use Rattle.rules.specs.Listing.{pairs_of, listing_bytes}
use Rattle.table.specs.declared.Level.{Level}
use Rattle.table.specs.declared.TaskNo.{TaskNo}
use Rattle.lists.specs.declared.Lists.{Lists}
use Rattle.lists.specs.declared.Stored.{Stored}
use Rattle.lists.specs.declared.Popped.{Popped}
use Rattle.lists.specs.Links.{Numbered, Absent, Stores}

-- ---- answers

-- the arrays and the map
abbrev pub stored_of : Lists → Stored
stored_of s = record { first = s.first; last = s.last; next = s.next; map = s.map }

abbrev pub lists_of : Stored → Lists
lists_of s = record { first = s.first; last = s.last; next = s.next; map = s.map }

-- "nobody, or one task", as the rules say it
abbrev pub who_in : Option TaskNo → Running
who_in None = Nobody
who_in (Some k) = One k.0

-- a level; nothing for 0, which is what the rules' `lowest` says where there is none
abbrev pub occupied_at : ℕ → Option Level
occupied_at zero = None
occupied_at (suc l) = Some (record { 0 = suc l })

-- what a pop at level l gives: the front job, and the lists without it
pub record PopsFrom (ls : ℕ → List ℕ) (l : ℕ) (r : Popped) : Type 0 where
  pub front : who_in r.front ≡ front_of (ls l)
  pub stores : Stores r.lists (put ls l (behind (ls l)))

-- the list q of level l with its front job gone to the end of list t; where q is empty nothing moves
abbrev pub front_moved : (ℕ → List ℕ) → ℕ → ℕ → List ℕ → ℕ → List ℕ
front_moved ls l t [] = ls
front_moved ls l t (x ∷ q) = to_end (put ls l q) t x

-- ---- what is asked

-- the arrays and the map store lists at all
pub record Holds (s : Lists) : Type 0 where
  pub lists : ℕ → List ℕ
  pub stores : Stores s lists

-- .. and l is a level
pub record HoldsAt (s : Lists) (l : ℕ) : Type 0 where
  pub lists : ℕ → List ℕ
  pub stores : Stores s lists
  pub level : Numbered l

-- .. and x is a task that waits nowhere, which may enter the list of level l
pub record MayEnter (s : Lists) (l x : ℕ) : Type 0 where
  pub lists : ℕ → List ℕ
  pub stores : Stores s lists
  pub level : Numbered l
  pub task : Numbered x
  pub absent : Absent x lists

-- .. and a buffer of n bytes has room, from `place` on, for level l's list
pub record RoomFor (s : Lists) (l place n : ℕ) : Type 0 where
  pub lists : ℕ → List ℕ
  pub stores : Stores s lists
  pub level : Numbered l
  pub room : place + length (pairs_of l (lists l)) ≤ n

-- .. and a buffer of n bytes has room for all lists
pub record RoomForAll (s : Lists) (n : ℕ) : Type 0 where
  pub lists : ℕ → List ℕ
  pub stores : Stores s lists
  pub room : length (listing_bytes lists) ≤ n
