-- Test 15, and what follows from each of its results. Assumes nothing.
use mathlib.Core.Path.{subst}
use mathlib.Core.Bool.{Bool, true, false}
use Rattle.laws.specs.Words.{Decides}
use Rattle.laws.proofs.Bools.{decides_one}
use Rattle.kernel.specs.declared.Block.{Block}
use Rattle.kernel.specs.Block.{Whole, Test15}

module _ {b : Block} where
  pub then_15 : {P Q : Bool → Type 0} → ((w : Bool) → P w → Q w) → Test15 b P → Test15 b Q
  then_15 f t = record { whole = t.whole; decides = t.decides; then = f t.whole t.then }

  -- whichever it is
  pub either_15 : {P : Bool → Type 0} (A : Type 0) → ((w : Bool) → P w → A) → Test15 b P → A
  either_15 A f t = f t.whole t.then

  -- of a whole block
  pub of_whole : {P : Bool → Type 0} → Whole b → Test15 b P → P true
  of_whole {P} w t = go t.whole t.decides t.then
    where
      go : (x : Bool) → Decides x (Whole b) → P x → P true
      go true d p = p
      go false d p = absurd (d w)

  -- of one that is not
  pub of_broken : {P : Bool → Type 0} → (Whole b → ⊥) → Test15 b P → P false
  of_broken {P} n t = go t.whole t.decides t.then
    where
      go : (x : Bool) → Decides x (Whole b) → P x → P false
      go true d p = absurd (n d)
      go false d p = p

  -- two answers had the same result of the test
  pub both_15 : {P Q : Bool → Type 0} (A : Type 0) → ((w : Bool) → P w → Q w → A) → Test15 b P → Test15 b Q → A
  both_15 {P} {Q} A f p q = f p.whole p.then (subst Q (decides_one (Whole b) q.whole p.whole q.decides p.decides) q.then)
