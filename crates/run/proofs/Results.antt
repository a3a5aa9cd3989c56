-- Two results that a contract allows are equal. A progress is given back by value, so the arrays of its block are as long as their types
-- say: that is the premise `Sizes`. Assumes nothing.
use mathlib.Core.Path.{◌≡◌, sym, ap, ◌∙◌}
use mathlib.Core.Bool.{Bool, true, false}
use mathlib.Core.List.{List}
use Prim.Native.Nat.{ℕ}
use lib.Dec.{leb}
use lib.ListN.{length}
use Rattle.laws.proofs.Buffers.{puts_one}
use Rattle.rules.specs.Table.{is_task}
use Rattle.rules.specs.Calls as Calls
use Rattle.rules.specs.Lines.{EventLine, line_of}
use Rattle.table.specs.Stored.{table_of}
use Rattle.jobs.specs.declared.Tasks.{Tasks}
use Rattle.kernel.specs.declared.Block.{Block}
use Rattle.kernel.specs.declared.Called.{Called}
use Rattle.kernel.specs.Block.{SameTasks, Sizes}
use Rattle.kernel.proofs.Results.{margin_one}
use Rattle.kernel.proofs.Views.{blocks_one}
use Rattle.text.specs.declared.Text.{Text}
use Rattle.text.proofs.Writes.{SameText, writes_one}
use Rattle.lines.specs.declared.Shown.{Shown}
use Rattle.lines.specs.Shown.{shown_as}
use Rattle.run.specs.declared.events.Progress.{Progress}
use Rattle.run.specs.declared.events.Totals.{Totals}
use Rattle.run.specs.Run.{room, RunsBy, Runs, step_in, Steps, Ends}

-- ---- run

-- length and buffer, where there is room enough and where there is not
pub runs_one : (s before : List ℕ) (r x : ℕ) (after last : List ℕ) → Runs s before r after → Runs s before x last → (x ≡ r) × (last ≡ after)
runs_one s before r x after last = by_room (leb room (length before))
  where
    by_room : (w : Bool) → RunsBy s before r after w → RunsBy s before x last w → (x ≡ r) × (last ≡ after)
    by_room true p q = let same = puts_one p q in (same.1, same.0)
    by_room false p q = (q.0 ∙ sym p.0, q.1 ∙ sym p.1)

-- ---- what the line of an event shows

-- what is shown has the columns of one line
pub columns_one : (r x : Shown) → shown_as x ≡ shown_as r → x ≡ r
columns_one r x e =
    let margin : x.margin ≡ r.margin = margin_one x.margin r.margin (ap (λ (l : EventLine). l.margin) e) in
    λ i. record { count = (e i).count; answer = (e i).answer; running = (e i).running; moves = (e i).moves; waiting = (e i).waiting; margin = margin i }

pub shown_one : (n : ℕ) (called : Called) (r x : Shown) → shown_as r ≡ line_of n (step_in called) → shown_as x ≡ line_of n (step_in called) → x ≡ r
shown_one n called r x p q = columns_one r x (q ∙ sym p)

-- ---- one event

module _ (a : Progress) (c : Calls.Call) (before : Text) (r x : Progress) (after last : Text) (long : Sizes r.block) (wide : Sizes x.block) where
  -- the block by its view and its table, what is written by its text, and the numbers
  pub steps_one : Steps a c before r after → Steps a c before x last → (x ≡ r) × SameText after last
  steps_one p q = (
    λ i. record { block = block i; count = (q.count ∙ sym p.count) i; moves = (q.moves ∙ sym p.moves) i; bound = (q.bound ∙ sym p.bound) i },
    writes_one p.text q.text,
  )
    where
      both : SameTasks r.block x.block
      both =
          record {
            tasks = q.same.tasks ∙ sym p.same.tasks;
            free =
                λ k f. let g : is_task (table_of a.block.tasks.table) k ≡ false = ap (λ (t : Tasks). is_task (table_of t.table) k) (sym p.same.tasks) ∙ f in
                q.same.free k g ∙ sym (p.same.free k g);
          }

      block : x.block ≡ r.block
      block = blocks_one long wide p.whole q.whole both (q.view ∙ sym p.view)

-- ---- all events

pub ends_one : (b : Block) (calls : List Calls.Call) (before : Text) (r x : Totals) (after last : Text)
    → Ends b calls before r after → Ends b calls before x last → (x ≡ r) × SameText after last
ends_one b calls before r x after last p q = (λ i. record { moves = (q.moves ∙ sym p.moves) i; bound = (q.bound ∙ sym p.bound) i }, writes_one p.text q.text)
