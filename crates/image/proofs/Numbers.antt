-- Numbers as bytes, by the library's methods. Assumes nothing.
use Rattle.std.proofs.Common.{◌≡◌, refl, sym, ap, ap₂, ◌∙◌, List, [], ◌∷◌, ℕ, zero, suc, ◌+◌, ◌/◌, ◌%◌, ◌^◌, arith, w32, w64, get_or}
use Rattle.std.proofs.Math.Nat.{div-div-eq-div-mul, div-one, pow-suc}
use Rattle.std.specs.Int.{bytes_low_first, byte_at, from_le_bytes}
use Rattle.rules.specs.Records.{word}
use Rattle.image.specs.Bytes.{little, long_word, all_bytes, all_from}

-- Bytes are parts of one byte each.
all_bytes_of : (xs : List ℕ) → all_bytes (λ n. n ∷ []) xs ≡ xs
unfolding all_bytes
all_bytes_of [] = refl
all_bytes_of (x ∷ xs) = ap (λ (u : List ℕ). x ∷ u) (all_bytes_of xs)

byte_at_is : (i n : ℕ) → byte_at i n ≡ n / 256 ^ i % 256
byte_at_is zero n = ap (λ (k : ℕ). k % 256) (sym (div-one n))
byte_at_is (suc i) n = refl

low_first : (k i n : ℕ) → bytes_low_first i k n ≡ little k (n / 256 ^ i)
unfolding little
low_first zero i n = refl
low_first (suc k) i n =
    let less : n / 256 ^ suc i ≡ n / 256 ^ i / 256 = ap (λ (d : ℕ). n / d) (pow-suc 256 i) ∙ sym (div-div-eq-div-mul n (256 ^ i) 256) in
    ap₂ (λ (x : ℕ) (xs : List ℕ). x ∷ xs) (byte_at_is i n) (low_first k (suc i) n ∙ ap (little k) less)

-- what `to_le_bytes` gives
pub le_bytes : (k n : ℕ) → all_bytes (λ n. n ∷ []) (bytes_low_first 0 k n) ≡ little k n
le_bytes k n = all_bytes_of (bytes_low_first 0 k n) ∙ low_first k 0 n ∙ ap (little k) (div-one n)

-- what `from_le_bytes` makes of the bytes that stand there
pub word_read : (s : List ℕ) (at : ℕ) → from_le_bytes w32 (all_from (λ at. get_or s at 0) 1 at 4) ≡ word s at
unfolding all_from
word_read s at =
    let two : at + 1 + 1 ≡ at + 2 = omega arith in let three : at + 2 + 1 ≡ at + 3 = omega arith in
    rw (two, three) (omega arith)

pub long_word_read : (s : List ℕ) (at : ℕ) → from_le_bytes w64 (all_from (λ at. get_or s at 0) 1 at 8) ≡ long_word s at
unfolding all_from
long_word_read s at =
    let two : at + 1 + 1 ≡ at + 2 = omega arith in let three : at + 2 + 1 ≡ at + 3 = omega arith in
    let four : at + 3 + 1 ≡ at + 4 = omega arith in
    let six : at + 4 + 1 + 1 ≡ at + 4 + 2 = omega arith in let seven : at + 4 + 2 + 1 ≡ at + 4 + 3 = omega arith in
    rw (two, three, four, six, seven) (omega arith)
