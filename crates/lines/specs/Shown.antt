-- What the lines show, as the rules' lines.
use Rattle.std.specs.Prelude.{ℕ, List, [], ◌∷◌, ◌++◌}
use Rattle.rules.specs.Lines.{EventLine}
use Rattle.rules.specs.Text.{column}
use Rattle.kernel.specs.Answers.{margin_in}
use Rattle.lines.specs.declared.Shown.{Shown}

-- a letter and two numbers
abbrev pub numbers_text : ℕ → ℕ → ℕ → List ℕ
numbers_text letter first second = letter ∷ column first ++ column second ++ 10 ∷ []

abbrev pub shown_as : Shown → EventLine
shown_as x = record { count = x.count; answer = x.answer; running = x.running; moves = x.moves; waiting = x.waiting; margin = margin_in x.margin }
