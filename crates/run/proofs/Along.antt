-- The line of an event; and the lines and totals of what is left. Assumes nothing.
use mathlib.Core.Path.{◌≡◌, refl, sym, ap, ◌∙◌}
use mathlib.Core.List.{List, [], ◌∷◌, ◌++◌, append_assoc, append-nil}
use Prim.Native.Nat.{ℕ, suc, ◌+◌, ◌*◌}
use native.Mathlib.Omega.{arith}
use lib.ListN.{length}
use Rattle.std.proofs.Common.{None, Ok, Err}
use Rattle.laws.specs.Words.{sum}
use Rattle.rules.specs.Numbers.{number_of}
use Rattle.rules.specs.Table.{Task}
use Rattle.rules.specs.State.{State, waiting}
use Rattle.rules.specs.Calls.{Call, moves_in, step_of}
use Rattle.rules.specs.Histories.{events_of, total_of, bound_of, bound_by}
use Rattle.rules.specs.Lines.{task_in, line_of, event_lines}
use Rattle.rules.specs.Text.{event_text, events_text}
use Rattle.lists.specs.Answers.{who_in}
use Rattle.kernel.specs.declared.Accepted.{Accepted}
use Rattle.kernel.specs.declared.Called.{Called}
use Rattle.kernel.specs.declared.Refusal.{Refusal}
use Rattle.kernel.specs.Answers.{refusal_in}
use Rattle.kernel.specs.Block.{view_of}
use Rattle.text.specs.declared.Text.{Text}
use Rattle.text.specs.Writes.{Writes}
use Rattle.text.proofs.Writes.{writes_none, writes_then, writes_as}
use Rattle.lines.specs.Shown.{shown_as}
use Rattle.lines.specs.Room.{event_room}
use Rattle.run.specs.Run.{step_in}

-- ---- one E line

module _ (n : ℕ) (r : Called) {running waits : ℕ} (runs : running ≡ task_in (who_in r.block.ready.running)) (wait : waits ≡ length (waiting (view_of r.block))) where
  pub line_accepted : {a : Accepted} → r.answer ≡ Ok a
      → shown_as (record { count = n; answer = 0; running = running; moves = a.moves; waiting = waits; margin = a.margin }) ≡ line_of n (step_in r)
  line_accepted e = rw (e, runs, wait)

  pub line_refused : {q : Refusal} {number : ℕ} → r.answer ≡ Err q → number ≡ number_of (refusal_in q)
      → shown_as (record { count = n; answer = number; running = running; moves = 0; waiting = waits; margin = None }) ≡ line_of n (step_in r)
  line_refused e number = rw (e, runs, wait, number)

-- ---- E lines

module _ (s : State) (n : ℕ) (c : Call) (cs : List Call) where
  text_more : events_text (event_lines s n (c ∷ cs)) ≡ event_text (line_of n (step_of s c)) ++ events_text (event_lines (step_of s c).state (suc n) cs)
  unfolding events_text event_lines
  text_more = refl

  total_more : total_of (events_of s (c ∷ cs)) ≡ moves_in (step_of s c).answer + total_of (events_of (step_of s c).state cs)
  unfolding events_of sum
  total_more = refl

  bound_more : (table : List Task) → bound_of table (events_of s (c ∷ cs)) ≡ bound_by table c (step_of s c).answer + bound_of table (events_of (step_of s c).state cs)
  unfolding events_of sum
  bound_more table = refl

-- with these calls left, of a state after n events, where so much is written and these are the totals, the whole comes to what the first
-- state and all calls come to
pub record Left (table : List Task) (before : Text) (s : State) (all : List Call) (now : State) (n : ℕ) (rest : List Call) (out : Text) (moves bound : ℕ) : Type 0 where
  pub text : List ℕ
  pub written : Writes before text (event_room * n) out
  pub lines : text ++ events_text (event_lines now (suc n) rest) ≡ events_text (event_lines s 1 all)
  pub total : moves + total_of (events_of now rest) ≡ total_of (events_of s all)
  pub bounds : bound + bound_of table (events_of now rest) ≡ bound_of table (events_of s all)

module _ (table : List Task) (before : Text) (s : State) (all : List Call) where
  pub left_all : Left table before s all s 0 all before 0 0
  left_all = record { text = []; written = writes_none before; lines = refl; total = omega arith; bounds = omega arith }

  module _ (now : State) (n : ℕ) {rest : List Call} {out : Text} {moves bound : ℕ} (l : Left table before s all now n rest out moves bound) where
    -- the rest said in another way
    pub left_as : {other : List Call} → rest ≡ other → Left table before s all now n other out moves bound
    left_as e = rw (← e) l

    pub left_next : (c : Call) (cs : List Call) → rest ≡ c ∷ cs → {next : State} → next ≡ (step_of now c).state → {out' : Text} {moves' bound' n' : ℕ}
        → n' ≡ suc n → Writes out (event_text (line_of (suc n) (step_of now c))) event_room out' → moves' ≡ moves + moves_in (step_of now c).answer
        → bound' ≡ bound + bound_by table c (step_of now c).answer → Left table before s all next n' cs out' moves' bound'
    left_next c cs e v {out'} {moves'} {bound'} en w m b =
        rw (v, en) (record {
          text = l.text ++ event_text (line_of (suc n) (step_of now c));
          written = writes_as refl (omega arith) (writes_then l.written w);
          lines =
              append_assoc l.text (event_text (line_of (suc n) (step_of now c))) _ ∙ ap (λ (t : List ℕ). l.text ++ t) (sym (text_more now (suc n) c cs))
              ∙ ap (λ (q : List Call). l.text ++ events_text (event_lines now (suc n) q)) (sym e) ∙ l.lines;
          total = omega (arith, m, total_more now (suc n) c cs, ap (λ (q : List Call). total_of (events_of now q)) e, l.total);
          bounds = omega (arith, b, bound_more now (suc n) c cs table, ap (λ (q : List Call). bound_of table (events_of now q)) e, l.bounds);
        })

    module _ (none : rest ≡ []) where
      pub ends_text : Writes before (events_text (event_lines s 1 all)) (event_room * n) out
      unfolding events_text event_lines
      ends_text = writes_as (sym (append-nil l.text) ∙ ap (λ (q : List Call). l.text ++ events_text (event_lines now (suc n) q)) (sym none) ∙ l.lines) (omega arith) l.written

      pub ends_total : moves ≡ total_of (events_of s all)
      unfolding events_of sum
      ends_total = omega (arith, ap (λ (q : List Call). total_of (events_of now q)) none, l.total)

      pub ends_bound : bound ≡ bound_of table (events_of s all)
      unfolding events_of sum
      ends_bound = omega (arith, ap (λ (q : List Call). bound_of table (events_of now q)) none, l.bounds)
