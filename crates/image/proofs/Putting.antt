-- Bytes put into a lent buffer: how many a number has, and those of an array. Assumes nothing.
use mathlib.Core.Path.{◌≡◌, refl, sym, ap, ◌∙◌}
use mathlib.Core.List.{List, [], ◌∷◌, ◌++◌, append_assoc, append-nil}
use Prim.Native.Nat.{ℕ, zero, suc, ◌+◌, ◌*◌, ◌/◌, ◌<◌}
use native.Mathlib.Numerals.{add-one}
use native.Mathlib.Nat.{mul-zero, mul-add}
use native.Mathlib.Omega.{arith}
use lib.ListN.{length, get_or, take}
use lib.Seq.{take-suc}
use Rattle.laws.specs.Words.{Puts}
use Rattle.laws.proofs.Buffers.{puts_behind, puts_to, puts_as}
use Rattle.image.specs.Bytes.{little, all_bytes}

pub little_length : (k n : ℕ) → length (little k n) ≡ k
unfolding little
little_length zero n = refl
little_length (suc k) n = ap suc (little_length k (n / 256))

module _ {X : Type 0} (bytes : X → List ℕ) where
  all_bytes_append : (xs ys : List X) → all_bytes bytes (xs ++ ys) ≡ all_bytes bytes xs ++ all_bytes bytes ys
  unfolding all_bytes
  all_bytes_append [] ys = refl
  all_bytes_append (x ∷ xs) ys = ap (λ (u : List ℕ). bytes x ++ u) (all_bytes_append xs ys) ∙ sym (append_assoc (bytes x) (all_bytes bytes xs) (all_bytes bytes ys))

  -- the bytes of the first i have been put, so many for each
  module _ (width : ℕ) where
    abbrev pub FirstPut : (before : List ℕ) → (place : ℕ) → (xs : List X) → (buffer : List ℕ) → ℕ → Type 0
    FirstPut before place xs buffer i = Puts before place (all_bytes bytes (take i xs)) (place + width * i) buffer

    pub none_put : (before : List ℕ) (place : ℕ) (xs : List X) → FirstPut before place xs before 0
    unfolding all_bytes
    none_put before place xs = record { size = omega (arith, mul-zero width); buffer = refl }

    module _ (xs : List X) {a b : List ℕ} {place i : ℕ} (now : FirstPut a place xs b i) where
      -- .. and those of the next behind them
      pub next_put : (x : X) (size : ℕ) {c : List ℕ} {end : ℕ} → i < length xs → size ≡ width → Puts b (place + size * i) (bytes (get_or xs i x)) end c
          → end ≡ place + size * i + width → FirstPut a place xs c (i + 1)
      unfolding all_bytes
      next_put x size {c} {end} h s q e =
          let here : place + width * i ≡ place + size * i = rw s in
          let more : end ≡ place + width * (i + 1) = omega (arith, mul-add width i 1) in
          puts_as (sym (rw (add-one i, take-suc xs i x h, all_bytes_append (take i xs) (get_or xs i x ∷ []), append-nil (bytes (get_or xs i x)))))
          (puts_to more (puts_behind now q here))
