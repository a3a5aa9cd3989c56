-- Two results that a contract allows are equal. Assumes nothing.
use Rattle.std.proofs.Common.{◌≡◌, ℕ, ◌≤◌, List, Result, Ok, Err, refl, sym, ap, ap₂, ◌∙◌, arith}
use Rattle.std.specs.Prelude.{⊤}
use lib.Dec.{eqb}
use Rattle.laws.specs.Words.{pick}
use Rattle.rules.specs.Numbers.{Refusal, Failed, longest, number_in, given_with}
use Rattle.rules.specs.Records.{stream_of}
use Rattle.rules.proofs.Readable.{stream_numbers}
use Rattle.stream.specs.declared.StreamRefusal.{StreamRefusal}
use Rattle.stream.specs.Answer.{stream_in}

-- the one that has this number, and this offset with it
abbrev stream_by : ℕ → ℕ → Result ⊤ StreamRefusal
stream_by number offset =
    pick (eqb number 12) (Err (StreamRefusal.Unreadable offset))
    (pick (eqb number 13) (Err (StreamRefusal.TaskBehindEvent offset)) (pick (eqb number 14) (Err StreamRefusal.TooLong) (Ok tt)))

stream_same : (a : Result ⊤ StreamRefusal) → stream_by (number_in (stream_in a)) (given_with (stream_in a)) ≡ a
stream_same (Ok _) = refl
stream_same (Err (StreamRefusal.Unreadable n)) = refl
stream_same (Err (StreamRefusal.TaskBehindEvent n)) = refl
stream_same (Err StreamRefusal.TooLong) = refl

-- the paper's number and offset determine it
pub numbers_one : (a b : Result ⊤ StreamRefusal) → number_in (stream_in a) ≡ number_in (stream_in b) → given_with (stream_in a) ≡ given_with (stream_in b) → a ≡ b
numbers_one a b n k = sym (stream_same a) ∙ ap₂ stream_by n k ∙ stream_same b

-- and so does what it says
pub stream_one : (a b : Result ⊤ StreamRefusal) → stream_in a ≡ stream_in b → a ≡ b
stream_one a b e = numbers_one a b (ap number_in e) (ap given_with e)

-- ---- an answer that is not `Ok` is a refusal

pub not_readable : (t : Result ⊤ StreamRefusal) → (t ≡ Ok tt → ⊥) → (q : Refusal) × (stream_in t ≡ Failed q)
not_readable (Ok _) h = absurd (h refl)
not_readable (Err r) h = (_, refl)

-- ---- the offset with it is small

pub offset_small : (s : List ℕ) (t : Result ⊤ StreamRefusal) → stream_in t ≡ stream_of s → given_with (stream_in t) ≤ longest
offset_small s (Ok _) e = omega arith
offset_small s (Err (StreamRefusal.Unreadable n)) e = let w = ((stream_numbers s).number_12 n).0 (sym e) in omega (arith, w.0, w.2)
offset_small s (Err (StreamRefusal.TaskBehindEvent n)) e = let w = ((stream_numbers s).number_13 n).0 (sym e) in omega (arith, w.0, w.2.within)
offset_small s (Err StreamRefusal.TooLong) e = omega arith
