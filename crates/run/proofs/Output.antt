-- The output of a run, from what its parts put. Assumes nothing.
use mathlib.Core.Path.{◌≡◌, refl, sym, ap, ap₂, subst, ◌∙◌}
use mathlib.Core.List.{List, ◌++◌}
use Prim.Native.Nat.{ℕ, ◌*◌, ◌≤◌, ◌<◌}
use native.Mathlib.Omega.{arith}
use borrow.Author.Tests.{le-leb, lt-leb}
use lib.ListN.{length}
use Rattle.laws.specs.Words.{Puts}
use Rattle.laws.proofs.Buffers.{puts_length}
use Rattle.rules.specs.Numbers.{Refusal, longest, Passed, Failed, first_of, number_of, value_of, given}
use Rattle.rules.specs.Table.{Task, most, verdict_of}
use Rattle.rules.specs.State.{State}
use Rattle.rules.specs.Calls.{start_of}
use Rattle.rules.specs.Histories.{events_of, total_of, bound_of}
use Rattle.rules.specs.Lines.{plan_lines, event_lines}
use Rattle.rules.specs.Records.{stream_of, runner_tests, tasks_read, calls_read}
use Rattle.rules.specs.Text.{plans_text, events_text, sum_text}
use Rattle.rules.specs.Runner.{report_of, output_of}
use Rattle.rules.proofs.Tables.{demand_1_table}
use Rattle.rules.proofs.Readable.{stream_numbers}
use Rattle.rules.proofs.Runner.{runner_refused, runner_table, runner_stream, output_refused, output_passed}
use Rattle.table.specs.declared.Table.{Table}
use Rattle.table.specs.Stored.{table_of, verdict_in}
use Rattle.text.specs.declared.Text.{Text}
use Rattle.text.specs.Writes.{Writes}
use Rattle.text.proofs.Writes.{writes_then, writes_as}
use Rattle.lines.specs.Shown.{numbers_text}
use Rattle.lines.specs.Room.{numbers_room, plan_room}
use Rattle.lines.proofs.Showing.{refusal_shown}
use Rattle.stream.specs.Load.{table_in}
use Rattle.stream.proofs.Loading.{table_same, table_verdict, table_places}
use Rattle.kernel.specs.declared.Block.{Block}
use Rattle.kernel.specs.declared.start.Started as Kernel
use Rattle.kernel.specs.Block.{view_of}
use Rattle.kernel.specs.Start.{Starts}
use Rattle.kernel.proofs.Starting.{start_whole}
use Rattle.run.specs.Run.{room, events_room, Runs, StartedBy}

-- two numbers that are written as a line, by what they are
pub numbers_written : {a b c d : ℕ} {text : List ℕ} {before after : Text} → a ≡ c → b ≡ d → numbers_text 88 c d ≡ text
    → Writes before (numbers_text 88 a b) numbers_room after → Writes before text room after
numbers_written e f g w = writes_as (ap₂ (numbers_text 88) e f ∙ g) (omega arith) w

-- ---- the buffer

module _ (s before : List ℕ) where
  pub too_little : length before < room → Runs s before 0 before
  too_little h = rw (lt-leb room (length before) h) (refl, refl)

  -- where it is what the written text's buffer is in the end
  pub enough : room ≤ length before → {r : ℕ} {after written : List ℕ} → after ≡ written → Puts before 0 (output_of s) r written → r ≤ room
      → Runs s before r after × (r ≤ length after)
  enough h e p near = rw e (rw (le-leb room (length before) h) p, omega (arith, puts_length p))

module _ (s : List ℕ) where
  -- ---- X

  refused_text : (q : Refusal) → first_of (runner_tests s) ≡ Failed q → numbers_text 88 (number_of q) (given (value_of q)) ≡ output_of s
  refused_text q e = refusal_shown q ∙ sym (output_refused s q e)

  -- of a stream that is not readable
  pub stream_refused : (q : Refusal) → stream_of s ≡ Failed q → numbers_text 88 (number_of q) (given (value_of q)) ≡ output_of s
  stream_refused q e = refused_text q (runner_refused s q e)

  -- of one that is, from what start said of its table
  module _ (readable : stream_of s ≡ Passed) (stored : Table) (is : stored ≡ table_in (tasks_read s)) (r : Kernel.Started) (st : Starts stored 0 r) where
    said : verdict_in r.verdict ≡ verdict_of (tasks_read s)
    said = st.verdict ∙ ap (λ (t : Table). verdict_of (table_of t)) is ∙ table_verdict (tasks_read s)

    pub table_refused : (q : Refusal) → verdict_in r.verdict ≡ Failed q → numbers_text 88 (number_of q) (given (value_of q)) ≡ output_of s
    table_refused q e = refused_text q (runner_table s readable ∙ sym said ∙ e)

    pub table_sound : verdict_in r.verdict ≡ Passed → StartedBy s r.block
    table_sound e =
        let sound : verdict_of (tasks_read s) ≡ Passed = sym said ∙ e in
        let fits : length (tasks_read s) ≤ most = ((demand_1_table (tasks_read s)).numbers.sound.0 sound).0.1 in
        let same : table_of (table_in (tasks_read s)) ≡ tasks_read s = table_same (tasks_read s) fits in
        let st' : Starts (table_in (tasks_read s)) 0 r = subst (λ (t : Table). Starts t 0 r) is st in
        let begun = start_whole (table_in (tasks_read s)) 0 r (table_places (tasks_read s)) st' (ap verdict_of same ∙ sound) in
        record { passed = runner_table s readable ∙ sound; whole = begun.0; view = begun.1 ∙ ap (λ (ts : List Task). start_of ts 0) same }

  -- ---- P, E and S

  pub passed_short : first_of (runner_tests s) ≡ Passed → length s ≤ longest
  passed_short e = ((stream_numbers s).readable.0 (runner_stream s e)).0

  module _ (b : Block) (w : StartedBy s b) where
    pub table_started : table_of b.tasks.table ≡ tasks_read s
    table_started = ap (λ (x : State). x.table) w.view

    -- the lines of this table, from this state on
    abbrev shown : List Task → State → List ℕ
    shown ts x =
        plans_text (plan_lines ts (length ts) 1) ++ events_text (event_lines x 1 (calls_read s)) ++ sum_text (total_of (events_of x (calls_read s))) (bound_of ts (events_of x (calls_read s)))

    shown_output : shown (table_of b.tasks.table) (view_of b) ≡ output_of s
    unfolding report_of
    shown_output = ap₂ shown table_started w.view ∙ sym (output_passed s w.passed)

    -- the three parts, one behind another, are the output
    pub report_written : {before first second after : Text} {moves bound : ℕ}
        → Writes before (plans_text (plan_lines (table_of b.tasks.table) (length (table_of b.tasks.table)) 1)) (most * plan_room most) first
        → Writes first (events_text (event_lines (view_of b) 1 (calls_read s))) events_room second
        → Writes second (sum_text moves bound) numbers_room after
        → moves ≡ total_of (events_of (view_of b) (calls_read s)) → bound ≡ bound_of (table_of b.tasks.table) (events_of (view_of b) (calls_read s))
        → Writes before (output_of s) room after
    report_written {moves = moves} {bound = bound} p q l m n =
        writes_as
        (ap₂ (λ (x y : ℕ). plans_text (plan_lines (table_of b.tasks.table) (length (table_of b.tasks.table)) 1) ++ events_text (event_lines (view_of b) 1 (calls_read s)) ++ sum_text x y) m n ∙ shown_output)
        (omega arith) (writes_then (writes_then p q) l)
