-- The record at a place by its mark: the marks' names against the rules' table of marks. Assumes nothing.
use Rattle.std.proofs.Common.{◌≡◌, ℕ, ◌+◌, ◌≤◌, ◌<◌, Bool, true, false, ◌&&◌, List, Option, Some, None, length, get_or, refl, sym, ap, ◌∙◌, arith}
use borrow.Author.Tests.{le-leb, lt-leb, leb-true, leb-false}
use lib.Dec.{eqb, leb}
use Rattle.laws.specs.Words.{pick}
use Rattle.rules.specs.Records.{Found, End, Bad, found_by, record_at}
use Rattle.rules.proofs.Streams.{at_end, read_within}
use Rattle.records.specs.declared.Mark.{Mark}
use Rattle.records.specs.declared.Record.{Record}
use Rattle.records.specs.Read.{record_in, read_as, mark_in, size_in, says_in}

-- ---- the record

-- where the stream does not end: what the record of this mark says, or a record cut off; without a mark none can be read
abbrev sized_by : List ℕ → ℕ → Option Mark → Found
sized_by s at (Some m) = pick (leb (at + size_in m) (length s)) (says_in s at m) Bad
sized_by s at None = Bad

-- what is found by the mark that four tests choose is chosen by them
by_tests : (f : Option Mark → Found) (p q r t : Bool)
    → pick p (f (Some Mark.Task)) (pick q (f (Some Mark.Release)) (pick r (f (Some Mark.Done)) (pick t (f (Some Mark.Clock)) (f None))))
    ≡ f (pick p (Some Mark.Task) (pick q (Some Mark.Release) (pick r (Some Mark.Done) (pick t (Some Mark.Clock) None))))
by_tests f true q r t = refl
by_tests f false true r t = refl
by_tests f false false true t = refl
by_tests f false false false true = refl
by_tests f false false false false = refl

short_bad : (s : List ℕ) (at : ℕ) (m : Option Mark) → length s < at + 2 → sized_by s at m ≡ Bad
short_bad s at (Some Mark.Task) h = rw (lt-leb (at + 14) (length s) (omega arith))
short_bad s at (Some Mark.Release) h = rw (lt-leb (at + 7) (length s) (omega arith))
short_bad s at (Some Mark.Done) h = rw (lt-leb (at + 7) (length s) (omega arith))
short_bad s at (Some Mark.Clock) h = rw (lt-leb (at + 6) (length s) (omega arith))
short_bad s at None h = refl

module _ (s : List ℕ) (at : ℕ) (inside : at < length s) where
  abbrev mark : Option Mark
  mark = mark_in (get_or s at 0) (get_or s (at + 1) 0)

  by_mark : record_at s at ≡ sized_by s at mark
  unfolding record_at found_by
  by_mark =
      let bytes : ℕ → ℕ → Bool = λ a b. eqb (get_or s at 0) a && eqb (get_or s (at + 1) 0) b in
      rw (lt-leb (length s) at inside) (by_tests (sized_by s at) (bytes 84 75) (bytes 82 76) (bytes 68 78) (bytes 84 77))

  -- a single byte is no mark
  pub short_at : length s < at + 2 → record_at s at ≡ Bad
  short_at h = by_mark ∙ short_bad s at mark h

  pub unknown_at : None ≡ mark → record_at s at ≡ Bad
  unknown_at e = by_mark ∙ ap (sized_by s at) (sym e)

  module _ (m : Mark) (is : Some m ≡ mark) where
    pub cut_at : length s < at + size_in m → record_at s at ≡ Bad
    cut_at h = by_mark ∙ ap (sized_by s at) (sym is) ∙ rw (lt-leb _ _ h)

    pub whole_at : at + size_in m ≤ length s → record_at s at ≡ says_in s at m
    whole_at h = by_mark ∙ ap (sized_by s at) (sym is) ∙ rw (le-leb _ _ h)

-- ---- a record that was read has bytes, and they are all there; one that cannot be read begins before the stream's end

pub lies_within : (s : List ℕ) (at : ℕ) (r : Record) (n : ℕ) → read_as r n ≡ record_at s at → (6 ≤ n) × (at + n ≤ length s)
lies_within s at r n e = read_within s at (record_in r) n (sym e)

pub bad_within : (s : List ℕ) (at : ℕ) → Bad ≡ record_at s at → at < length s
bad_within s at e = by_order (leb (length s) at) refl
  where
    by_order : (b : Bool) → leb (length s) at ≡ b → at < length s
    by_order true t = let z : Bad ≡ End = e ∙ at_end s at (leb-true _ _ t) in cc
    by_order false t = leb-false _ _ t
