-- A number in decimal is what the library writes. Assumes nothing.
use mathlib.Core.Path.{◌≡◌, sym}
use Prim.Native.Nat.{ℕ, ◌^◌, ◌≤◌, ◌<◌}
use borrow.Author.Tests.{lt-ltb, le-ltb}
use Rattle.std.specs.Fmt.{decimal}
use Rattle.std.proofs.Common.{length}
use Rattle.std.proofs.lemmas.Fmt.{AppendsLastDigit, decimal_from_appends}
use Rattle.rules.specs.Text.{digits, number_text}

appends : AppendsLastDigit digits
unfolding digits
appends = record { one = λ k n h. rw (lt-ltb n 10 h); more = λ k n h. rw (le-ltb n 10 h) }

pub decimal_text : (n : ℕ) → n < 2 ^ 64 → length (decimal n) ≤ 20 → decimal n ≡ number_text n
decimal_text n small few = sym (decimal_from_appends digits appends 20 n small few)
