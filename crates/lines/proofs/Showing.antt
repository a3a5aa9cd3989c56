-- A refusal as its line shows it. Assumes nothing.
use mathlib.Core.Path.{◌≡◌, refl}
use Rattle.rules.specs.Numbers.{Refusal, number_of, value_of, given}
use Rattle.rules.specs.Text.{refusal_text}
use Rattle.lines.specs.Shown.{numbers_text}

pub refusal_shown : (r : Refusal) → numbers_text 88 (number_of r) (given (value_of r)) ≡ refusal_text r
unfolding refusal_text
refusal_shown r = refl
