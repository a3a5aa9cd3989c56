-- An array taken out of bytes, from its front on. Assumes nothing.
use Rattle.std.proofs.Common.{◌≡◌, ap, ap₂, subst, ◌∙◌, List, ◌∷◌, ℕ, zero, suc, ◌+◌, ◌*◌, length, drop, arith}
use Rattle.std.proofs.Math.Nat.{mul-add, mul-zero}
use Rattle.std.proofs.lemmas.List.{drop_more, drop_all}
use Rattle.std.specs.Fn.{Mut}
use Rattle.std.specs.Array.{IsFromFnResult, IsFromFnResultFrom}
use Rattle.std.specs.Iterator.{ActsAs}
use Rattle.image.specs.Bytes.{all_from}

-- what a call for each place below n made, where the call for a place reads the part there
module _ {F X : Type 0} {g : Mut F (ℕ × Unit {0}) X} {f : F} (read : ℕ → X) (width at : ℕ) (acts : ActsAs g f (λ i. read (at + width * i))) (made : List X) where
  behind : (i n : ℕ) → i + n ≡ length made → IsFromFnResultFrom g f made i n → drop i made ≡ all_from read width (at + width * i) n
  unfolding all_from
  behind i zero e m = drop_all i made (omega arith)
  behind i (suc n) e (q, y, is, called, more) =
      let did = acts i y q called in
      let place : at + width * (i + 1) ≡ at + width * i + width = omega (arith, mul-add width i 1) in
      let next = behind (i + 1) n (omega arith) (subst (λ (p : F). IsFromFnResultFrom g p made (i + 1) n) did.0 more) in
      drop_more made i y (omega arith)
      ∙ ap₂ (λ (x : X) (xs : List X). x ∷ xs) (is.0 ∙ did.1) (next ∙ ap (λ (k : ℕ). all_from read width k n) place)

  pub all_made : (n : ℕ) → IsFromFnResult g f made n → made ≡ all_from read width at n
  all_made n m =
      let place : at + width * 0 ≡ at = omega (arith, mul-zero width) in
      behind 0 n (omega (arith, m.long)) m.each ∙ ap (λ (k : ℕ). all_from read width k n) place
