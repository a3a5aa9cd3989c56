-- What each part of the test tells of arrays that may hold anything, in lists.
use Rattle.std.specs.Prelude.{ℕ, ◌+◌, ◌≤◌, ◌<◌, ◌≡◌, Bool, true, false, not, ◌&&◌, List, eqb, Option, None, Some}
use Rattle.laws.specs.Words.{pick, digit}
use Rattle.laws.specs.Bits.{bit_at}
use Rattle.rules.specs.Table.{most}
use Rattle.lists.specs.declared.Lists.{Lists}
use Rattle.lists.specs.Links.{Numbered, at, back}
use Rattle.lists.specs.Held.{list_at, all_of}
use Rattle.lists.specs.Marks.{none, seen_at, marked, fresh}

-- the walk along the list of level l, when the numbers of the lists before it are marked: the marks after it, where the list is right
abbrev pub Went : Lists → ℕ → List Bool → Option (List Bool) → Type 0
Went s l before r =
    r ≡ pick (fresh before (list_at s l) && eqb (at s.last l) (back 0 (list_at s l))) (Some (marked before (list_at s l))) None

-- who is not marked has no link
abbrev pub Unlinked : Lists → List Bool → Type 0
Unlinked s seen = (x : ℕ) → x ≤ most → seen_at seen x ≡ false → at s.next x ≡ 0

-- all lists are right
pub record ListsRight (s : Lists) : Type 0 where
  pub fresh : fresh none (all_of s) ≡ true
  pub last : (l : ℕ) → Numbered l → at s.last l ≡ back 0 (list_at s l)
  pub unlinked : Unlinked s (marked none (all_of s))

-- each bit of the map tells whether the list of its level holds a job
abbrev pub MapTrue : Lists → Type 0
MapTrue s = (k : ℕ) → k < most → bit_at s.map k ≡ digit (not (eqb (at s.first (k + 1)) 0))
