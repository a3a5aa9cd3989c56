-- What the loops over all levels keep, where the lists below level l are passed. Assumes nothing.
use mathlib.Core.Path.{◌≡◌, ap, subst}
use mathlib.Core.List.{List, [], ◌++◌}
use Prim.Native.Nat.{ℕ, suc, ◌+◌, ◌-◌, ◌≤◌, ◌<◌}
use native.Mathlib.Omega.{arith}
use lib.ListN.{length, length-append}
use Rattle.laws.specs.Words.{joined, Puts}
use Rattle.laws.proofs.Buffers.{Filling, filling_start, filling_room, filling_next, filling_puts}
use Rattle.laws.proofs.Families.{joined_turn, joined_over}
use Rattle.rules.specs.Table.{most}
use Rattle.rules.specs.State.{listing}
use Rattle.rules.specs.Listing.{pairs_of, listing_bytes}
use Rattle.lists.specs.Links.{Waits}
use Rattle.lists.proofs.Together.{listing_levels, bytes_levels}

-- the lists from level l up
abbrev from : (ℕ → List ℕ) → ℕ → List ℕ
from ls l = joined ls (suc most - l) l

-- ---- counted

-- n jobs wait in the lists passed
pub record Adding (ls : ℕ → List ℕ) (l n : ℕ) : Type 0 where
  pub low : 1 ≤ l
  pub sum : n + length (from ls l) ≡ length (listing ls)

pub adding_start : {ls : ℕ → List ℕ} → Waits ls → Adding ls 1 0
adding_start w = record { low = omega arith; sum = omega (arith, ap length (listing_levels w)) }

module _ {ls : ℕ → List ℕ} {l n : ℕ} (now : Adding ls l n) where
  here : l ≤ most → n + length (ls l) + length (from ls (l + 1)) ≡ length (listing ls)
  here h = omega (arith, ap length (joined_turn ls (suc most) l (omega arith)), length-append (ls l) (from ls (l + 1)), now.sum)

  pub adding_room : l ≤ most → n + length (ls l) ≤ length (listing ls)
  adding_room h = omega (arith, here h)

  pub adding_turn : {k : ℕ} → l ≤ most → k ≡ length (ls l) → Adding ls (l + 1) (n + k)
  adding_turn h e = record { low = omega arith; sum = omega (arith, here h) }

  pub adding_end : most < l → n ≡ length (listing ls)
  adding_end h = omega (arith, ap length (joined_over ls (suc most) l h), now.sum)

-- ---- written into a buffer

-- the jobs of level l, as bytes
abbrev pairs_in : (ℕ → List ℕ) → ℕ → List ℕ
pairs_in ls l = pairs_of l (ls l)

-- the jobs of the lists passed are in the buffer, up to i
pub record Listing (ls : ℕ → List ℕ) (before : List ℕ) (l i : ℕ) (buffer : List ℕ) : Type 0 where
  pub low : 1 ≤ l
  pub filling : Filling before 0 (listing_bytes ls) i (from (pairs_in ls) l) buffer

pub listing_start : {ls : ℕ → List ℕ} → Waits ls → (before : List ℕ) → Listing ls before 1 0 before
listing_start {ls} w before =
    record {
      low = omega arith;
      filling = subst (λ (rest : List ℕ). Filling before 0 (listing_bytes ls) 0 rest before) (bytes_levels w) (filling_start before 0 (listing_bytes ls));
    }

module _ {ls : ℕ → List ℕ} {before : List ℕ} {l i : ℕ} {buffer : List ℕ} (now : Listing ls before l i buffer) where
  split : l ≤ most → from (pairs_in ls) l ≡ pairs_in ls l ++ from (pairs_in ls) (l + 1)
  split h = joined_turn (pairs_in ls) (suc most) l (omega arith)

  nothing_left : most < l → from (pairs_in ls) l ≡ []
  nothing_left h = joined_over (pairs_in ls) (suc most) l h

  pub listing_room : l ≤ most → i + length (pairs_of l (ls l)) ≤ length (listing_bytes ls)
  listing_room h = omega (arith, filling_room now.filling (pairs_in ls l) (from (pairs_in ls) (l + 1)) (split h))

  pub listing_turn : {k : ℕ} {after : List ℕ} → l ≤ most → Puts buffer i (pairs_of l (ls l)) k after → Listing ls before (l + 1) k after
  listing_turn h w = record { low = omega arith; filling = filling_next now.filling (pairs_in ls l) (from (pairs_in ls) (l + 1)) (split h) w }

  pub listing_end : most < l → Puts before 0 (listing_bytes ls) i buffer
  listing_end h = filling_puts now.filling (nothing_left h)
