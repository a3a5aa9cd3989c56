-- One event: its call on a whole block is the rules' step, and all that it does. Assumes nothing.
use mathlib.Core.Path.{◌≡◌, sym, ap, ap₂, ◌∙◌}
use Prim.Native.Nat.{ℕ, ◌+◌, ◌≤◌}
use native.Mathlib.Numerals.{add-one}
use native.Mathlib.Omega.{arith}
use lib.ListN.{length}
use Rattle.rules.specs.Table.{most}
use Rattle.rules.specs.Histories.{bound_by}
use Rattle.rules.specs.State.{State}
use Rattle.rules.specs.Calls.{Call, Answer, moves_in, step_of}
use Rattle.rules.specs.Lines.{EventLine, line_of}
use Rattle.rules.specs.Text.{event_text}
use Rattle.rules.proofs.Steps.{step_cases, time_of_call, accepted_task, moves_waiting}
use Rattle.table.specs.Stored.{table_of}
use Rattle.lists.proofs.Together.{listing_few}
use Rattle.kernel.specs.declared.Block.{Block}
use Rattle.kernel.specs.declared.Called.{Called}
use Rattle.kernel.specs.Block.{view_of, Whole}
use Rattle.kernel.specs.Answers.{answer_in}
use Rattle.kernel.specs.Calls.{Does, Gives}
use Rattle.kernel.proofs.Fifteen.{of_whole}
use Rattle.kernel.proofs.Asking.{lists_viewed, copy_viewed}
use Rattle.text.specs.declared.Text.{Text}
use Rattle.text.specs.Writes.{Writes}
use Rattle.text.proofs.Writes.{writes_as}
use Rattle.lines.specs.declared.Shown.{Shown}
use Rattle.lines.specs.Shown.{shown_as}
use Rattle.lines.specs.Room.{event_room}
use Rattle.run.specs.declared.events.Progress.{Progress}
use Rattle.run.specs.Run.{step_in, Laid, Boundable, Begins, Steps}

-- ---- the call

module _ (b : Block) (w : Whole b) where
  -- a call moves few jobs
  pub moves_few : (c : Call) → moves_in (step_of (view_of b) c).answer ≤ most
  moves_few c =
      step_cases (λ y. moves_in y.answer ≤ most) (view_of b) c (λ r e. omega arith)
      (λ p. omega (arith, moves_waiting (view_of b) (time_of_call (view_of b) c), listing_few (lists_viewed b w).waits))

  pub laid_whole : length b.tasks.table.tasks ≡ most → Laid b.tasks
  laid_whole long = record { copy = copy_viewed b w long }

  module _ (c : Call) (r : Called) (g : Gives b c r) where
    pub does : Does b c r
    does = of_whole w g

    pub step_same : step_in r ≡ step_of (view_of b) c
    step_same = ap₂ (λ (a : Answer) (s : State). record { answer = a; state = s }) does.answer does.view

    pub boundable_whole : length b.tasks.table.tasks ≡ most → Boundable b.tasks c (answer_in r.answer)
    boundable_whole long =
        record {
          laid = laid_whole long;
          task = λ n k x m h e a. accepted_task (view_of b) n k (ap (λ (q : Call). (step_of (view_of b) q).answer) (sym e) ∙ sym does.answer ∙ a);
        }

-- ---- all that it does

module _ (a : Progress) (w : Begins a) (c : Call) (r : Called) (g : Gives a.block c r) (line : Shown) (shows : shown_as line ≡ line_of (a.count + 1) (step_in r)) where
  line_moves : line.moves ≡ moves_in (step_of (view_of a.block) c).answer
  line_moves = ap (λ (x : EventLine). x.moves) shows ∙ ap moves_in (does a.block w.whole c r g).answer

  pub line_few : line.moves ≤ most
  line_few = omega (arith, line_moves, moves_few a.block w.whole c)

  pub steps : {more : ℕ} {before after : Text} → more ≡ bound_by (table_of a.block.tasks.table) c (answer_in r.answer) → more ≤ 256
      → Writes before (event_text (shown_as line)) event_room after
      → Steps a c before (record { block = r.block; count = a.count + 1; moves = a.moves + line.moves; bound = a.bound + more }) after
  steps s small put =
      let d = does a.block w.whole c r g in
      record {
        whole = d.whole;
        view = d.view;
        same = d.same;
        text = writes_as (ap event_text (shows ∙ ap₂ line_of (add-one a.count) (step_same a.block w.whole c r g))) (omega arith) put;
        count = add-one a.count;
        moves = ap (λ (m : ℕ). a.moves + m) line_moves;
        bound = ap (λ (m : ℕ). a.bound + m) (s ∙ ap (bound_by (table_of a.block.tasks.table) c) d.answer);
        few_moves = omega (arith, line_few);
        small_bound = omega arith;
      }
