-- What is written piece after piece. Assumes nothing.
use mathlib.Core.Path.{◌≡◌, refl, sym, ◌∙◌}
use mathlib.Core.List.{List, [], ◌∷◌, ◌++◌}
use Prim.Native.Nat.{ℕ, ◌+◌, ◌≤◌, ◌<◌}
use native.Mathlib.Omega.{arith}
use lib.ListN.{length, get_or, take}
use Rattle.std.proofs.lemmas.List.{take_more}
use Rattle.laws.proofs.Buffers.{puts_none, puts_then, puts_as, puts_one}
use Rattle.text.specs.declared.Text.{Text}
use Rattle.text.specs.Writes.{Writes}

pub writes_none : (t : Text) → Writes t [] 0 t
writes_none t = record { same = refl; long = refl; put = puts_none t.buffer.now t.at; near = omega arith }

module _ {a b : Text} {xs : List ℕ} {m : ℕ} (w : Writes a xs m b) where
  -- one piece behind another is the two joined
  pub writes_then : {c : Text} {ys : List ℕ} {n : ℕ} → Writes b ys n c → Writes a (xs ++ ys) (m + n) c
  writes_then v =
      record { same = v.same ∙ w.same; long = v.long ∙ w.long; put = puts_then w.put v.put; near = omega (arith, w.near, v.near) }

-- the same, said in another way
pub writes_as : {a b : Text} {xs ys : List ℕ} {m n : ℕ} → xs ≡ ys → m ≤ n → Writes a xs m b → Writes a ys n b
writes_as e h w = record { same = w.same; long = w.long; put = puts_as e w.put; near = omega (arith, w.near) }

-- the same bytes in the same buffer, and the same place behind them
pub record SameText (a b : Text) : Type 0 where
  pub buffer : b.buffer.ghost_name ≡ a.buffer.ghost_name
  pub bytes : b.buffer.now ≡ a.buffer.now
  pub place : b.at ≡ a.at

-- what is written determines the text
pub writes_one : {a b c : Text} {xs : List ℕ} {m n : ℕ} → Writes a xs m b → Writes a xs n c → SameText b c
writes_one w v = let put = puts_one w.put v.put in record { buffer = v.same ∙ sym w.same; bytes = put.0; place = put.1 }

-- one byte more of these
pub writes_next : {a b c : Text} (xs : List ℕ) {i : ℕ} (d : ℕ) → Writes a (take i xs) i b → i < length xs → Writes b (get_or xs i d ∷ []) 1 c
    → Writes a (take (i + 1) xs) (i + 1) c
writes_next xs d w h v = writes_as (sym (take_more xs _ d h)) (omega arith) (writes_then w v)
