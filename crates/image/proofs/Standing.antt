-- Bytes that stand in others from a place on, and what is read there: that of which they are the bytes. Assumes nothing.
use mathlib.Core.Path.{◌≡◌, refl, sym, ap, ap₂, subst, ◌∙◌}
use mathlib.Core.List.{List, [], ◌∷◌, ◌++◌, append_assoc}
use Prim.Native.Nat.{ℕ, zero, suc, ◌+◌, ◌*◌, ◌/◌}
use native.Mathlib.Nat.{mul-zero, mul-suc, pow-suc, mod-add-div}
use native.Mathlib.Omega.{arith}
use lib.ListN.{length, get_or, length-append}
use lib.Seq.{get_or-append_seam}
use Rattle.laws.specs.Words.{All}
use Rattle.rules.specs.Records.{word}
use Rattle.image.specs.Bytes.{little, all_bytes, all_from, long_word, Small, Array}
use Rattle.image.proofs.Putting.{little_length}

-- from `at` on the bytes of s are xs
abbrev pub Stands : List ℕ → ℕ → List ℕ → Type 0
Stands s at [] = Unit {0}
Stands s at (x ∷ xs) = (get_or s at 0 ≡ x) × Stands s (at + 1) xs

pub stands_between : (front xs behind : List ℕ) → Stands (front ++ (xs ++ behind)) (length front) xs
stands_between front [] behind = tt
stands_between front (x ∷ xs) behind = (
  get_or-append_seam front x (xs ++ behind) 0,
  rw (append_assoc front (x ∷ []) (xs ++ behind), length-append front (x ∷ [])) at (stands_between (front ++ x ∷ []) xs behind),
)

stands_both : (xs ys s : List ℕ) (at : ℕ) → Stands s at (xs ++ ys) → Stands s at xs × Stands s (at + length xs) ys
stands_both [] ys s at h = let e : at ≡ at + 0 = omega arith in (tt, subst (λ (k : ℕ). Stands s k ys) e h)
stands_both (x ∷ xs) ys s at h =
    let e : at + 1 + length xs ≡ at + suc (length xs) = omega arith in
    let both = stands_both xs ys s (at + 1) h.1 in
    ((h.0, both.0), subst (λ (k : ℕ). Stands s k ys) e both.1)

-- An X that fits has so many bytes, and where they stand it is read.
pub record Codec {X : Type 0} (Fits : X → Type 0) (bytes : X → List ℕ) (read : List ℕ → ℕ → X) (width : ℕ) : Type 0 where
  pub long : (x : X) → Fits x → length (bytes x) ≡ width
  pub kept : (x : X) → Fits x → (s : List ℕ) (at : ℕ) → Stands s at (bytes x) → read s at ≡ x

-- one behind the other
module _ {X Y : Type 0} {P : X → Type 0} {Q : Y → Type 0} {xBytes : X → List ℕ} {yBytes : Y → List ℕ} {xRead : List ℕ → ℕ → X} {yRead : List ℕ → ℕ → Y} {m n : ℕ} where
  pub then : Codec P xBytes xRead m → Codec Q yBytes yRead n
      → Codec {X = X × Y} (λ p. P p.0 × Q p.1) (λ p. xBytes p.0 ++ yBytes p.1) (λ s at. (xRead s at, yRead s (at + m))) (m + n)
  then x y =
      record {
        long = λ p f. length-append (xBytes p.0) (yBytes p.1) ∙ ap₂ (λ (j k : ℕ). j + k) (x.long p.0 f.0) (y.long p.1 f.1);
        kept =
            λ p f s at h.
            let both = stands_both (xBytes p.0) (yBytes p.1) s at h in
            let behind = subst (λ (k : ℕ). Stands s (at + k) (yBytes p.1)) (x.long p.0 f.0) both.1 in
            ap₂ (λ (u : X) (v : Y). (u, v)) (x.kept p.0 f.0 s at both.0) (y.kept p.1 f.1 s (at + m) behind);
      }

-- an array of n
module _ {X : Type 0} {P : X → Type 0} {bytes : X → List ℕ} {read : List ℕ → ℕ → X} {width : ℕ} (one : Codec P bytes read width) where
  all_long : (xs : List X) → All P xs → length (all_bytes bytes xs) ≡ width * length xs
  unfolding all_bytes
  all_long [] f = sym (mul-zero width)
  all_long (x ∷ xs) f =
      let e : width + width * length xs ≡ width * suc (length xs) = omega (arith, mul-suc width (length xs)) in
      length-append (bytes x) (all_bytes bytes xs) ∙ ap₂ (λ (j k : ℕ). j + k) (one.long x f.0) (all_long xs f.1) ∙ e

  all_kept : (xs : List X) → All P xs → (s : List ℕ) (at : ℕ) → Stands s at (all_bytes bytes xs) → all_from (read s) width at (length xs) ≡ xs
  unfolding all_bytes all_from
  all_kept [] f s at h = refl
  all_kept (x ∷ xs) f s at h =
      let both = stands_both (bytes x) (all_bytes bytes xs) s at h in
      let behind = subst (λ (k : ℕ). Stands s (at + k) (all_bytes bytes xs)) (one.long x f.0) both.1 in
      ap₂ (λ (u : X) (v : List X). u ∷ v) (one.kept x f.0 s at both.0) (all_kept xs f.1 s (at + width) behind)

  pub array : (n : ℕ) → Codec (Array n P) (all_bytes bytes) (λ s at. all_from (read s) width at n) (width * n)
  array n =
      record {
        long = λ xs f. all_long xs f.each ∙ ap (λ (k : ℕ). width * k) f.long;
        kept = λ xs f s at h. ap (all_from (read s) width at) (sym f.long) ∙ all_kept xs f.each s at h;
      }

-- ---- numbers

-- that of k bytes
abbrev number_at : ℕ → List ℕ → ℕ → ℕ
number_at zero s at = 0
number_at (suc k) s at = get_or s at 0 + 256 * number_at k s (at + 1)

number_kept : (k n : ℕ) → Small k n → (s : List ℕ) (at : ℕ) → Stands s at (little k n) → number_at k s at ≡ n
unfolding little
number_kept zero n f s at h = omega arith
number_kept (suc k) n f s at h =
    let small : Small k (n / 256) = omega (arith, pow-suc 256 k) in
    ap₂ (λ (u v : ℕ). u + 256 * v) h.0 (number_kept k (n / 256) small s (at + 1) h.1) ∙ mod-add-div n 256

number : (k : ℕ) → Codec (Small k) (little k) (number_at k) k
number k = record { long = λ n f. little_length k n; kept = number_kept k }

word_is : (s : List ℕ) (at : ℕ) → word s at ≡ number_at 4 s at
word_is s at =
    let two : at + 1 + 1 ≡ at + 2 = omega arith in let three : at + 2 + 1 ≡ at + 3 = omega arith in
    rw (two, three) (omega arith)

long_word_is : (s : List ℕ) (at : ℕ) → long_word s at ≡ number_at 8 s at
long_word_is s at =
    let four : at + 1 + 1 + 1 + 1 ≡ at + 4 = omega arith in
    ap₂ (λ (j k : ℕ). j + 4294967296 * k) (word_is s at) (word_is s (at + 4)) ∙ rw four (omega arith)

pub word_codec : Codec (Small 4) (little 4) word 4
word_codec = record { long = (number 4).long; kept = λ n f s at h. word_is s at ∙ (number 4).kept n f s at h }

pub long_word_codec : Codec (Small 8) (little 8) long_word 8
long_word_codec = record { long = (number 8).long; kept = λ n f s at h. long_word_is s at ∙ (number 8).kept n f s at h }
