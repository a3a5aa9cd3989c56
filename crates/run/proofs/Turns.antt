-- The events of a stream, turn by turn of its reader. Assumes nothing.
use Rattle.std.proofs.Common.{◌≡◌, ℕ, ◌+◌, ◌*◌, ◌^◌, ◌≤◌, List, [], length, Some, None, Ok, Err, refl, ap, ◌∙◌, arith}
use Rattle.std.specs.Borrow.{Bor}
use Rattle.rules.specs.Numbers.{longest}
use Rattle.rules.specs.Table as Rules
use Rattle.rules.specs.Calls.{step_of}
use Rattle.rules.specs.Histories.{bound_by}
use Rattle.rules.specs.Records.{items_from, calls_in, calls_read}
use Rattle.rules.proofs.Streams.{end_at, read_within, calls_end, calls_bad, calls_more, calls_same}
use Rattle.table.specs.declared.Task.{Task}
use Rattle.table.specs.Stored.{table_of}
use Rattle.kernel.specs.declared.Call.{Call}
use Rattle.records.specs.declared.Record as Stored
use Rattle.records.specs.declared.Record.TheVariants as Record
use Rattle.records.specs.declared.Unreadable.{Unreadable}
use Rattle.records.specs.declared.Reader.{Reader}
use Rattle.records.specs.Turns.{Turns}
use Rattle.jobs.specs.declared.Tasks.{Tasks}
use Rattle.kernel.specs.declared.Block.{Block}
use Rattle.kernel.specs.Block.{view_of, Whole}
use Rattle.kernel.specs.Calls.{call_in}
use Rattle.text.specs.declared.Text.{Text}
use Rattle.text.specs.Writes.{HasRoom}
use Rattle.text.proofs.Writes.{writes_as}
use Rattle.lines.specs.Room.{event_room}
use Rattle.run.specs.declared.events.Progress.{Progress}
use Rattle.run.specs.Run.{events_room, totals_of, Begins, Steps, Ends}
use Rattle.run.proofs.Along.{Left, left_all, left_as, left_next, ends_text, ends_total, ends_bound}

-- before the reader's next turn, a run that began with the block b has come so far. An event has six bytes or more
pub record Along (s : List ℕ) (b : Block) (before out : Text) (now : Progress) (r : Reader) : Type 0 where
  pub stream : r.stream.now ≡ s
  pub within : r.at ≤ length s
  pub whole : Whole now.block
  pub table : table_of now.block.tasks.table ≡ table_of b.tasks.table
  pub counted : 6 * now.count ≤ r.at
  pub moves : now.moves ≤ now.count * 2 ^ 32
  pub bound : now.bound ≤ now.count * 2 ^ 32
  pub left : Left (table_of b.tasks.table) before (view_of b) (calls_read s) (view_of now.block) now.count (calls_in (items_from s r.at)) out now.moves now.bound

module _ (s : List ℕ) (b : Block) (before : Text) where
  pub along_start : Whole b → (r : Reader) → (r.stream.now ≡ s) × (r.at ≡ 0)
      → Along s b before before (record { block = b; count = 0; moves = 0; bound = 0 }) r
  along_start w r e =
      record {
        stream = e.0;
        within = omega arith;
        whole = w;
        table = refl;
        counted = omega arith;
        moves = omega arith;
        bound = omega arith;
        left = rw e.1 (left_all (table_of b.tasks.table) before (view_of b) (calls_read s));
      }

  module _ (out : Text) (now : Progress) (r : Reader) (w : Along s b before out now r) where
    module _ (t : Reader) (at : ℕ) where
      pub along_task : (x : Task) → Turns r (Some (Ok (at, Record.Task x))) t → Along s b before out now t
      along_task x turn =
          let e = rw w.stream at turn.2.1 in let h : (6 ≤ turn.2.0) × (r.at + turn.2.0 ≤ length s) = read_within s r.at _ _ e in
          record {
            stream = ap (λ (x : Bor (List ℕ)). x.now) turn.1 ∙ w.stream;
            within = omega (arith, h, turn.2.2);
            whole = w.whole;
            table = w.table;
            counted = omega (arith, w.counted, turn.2.2);
            moves = w.moves;
            bound = w.bound;
            left = rw turn.2.2 (left_as _ _ _ _ _ _ w.left (calls_same s r.at _ _ e));
          }

      pub along_event : (c : Call) → Turns r (Some (Ok (at, Record.Event c))) t → (next : Progress) (more : Text) → Steps now (call_in c) out next more
          → Along s b before more next t
      along_event c turn next more step =
          let e = rw w.stream at turn.2.1 in let h : (6 ≤ turn.2.0) × (r.at + turn.2.0 ≤ length s) = read_within s r.at _ _ e in
          record {
            stream = ap (λ (x : Bor (List ℕ)). x.now) turn.1 ∙ w.stream;
            within = omega (arith, h, turn.2.2);
            whole = step.whole;
            table = ap (λ (x : Tasks). table_of x.table) step.same.tasks ∙ w.table;
            counted = omega (arith, w.counted, step.count, h, turn.2.2);
            moves = omega (arith, w.moves, step.few_moves, step.count);
            bound = omega (arith, w.bound, step.small_bound, step.count);
            left =
                rw turn.2.2
                (left_next _ _ _ _ (view_of now.block) now.count w.left (call_in c) _ (calls_more s r.at _ _ e) step.view step.count step.text step.moves
                (step.bound ∙ ap (λ (ts : List Rules.Task). now.bound + bound_by ts (call_in c) (step_of (view_of now.block) (call_in c)).answer) w.table));
          }

    module _ (short : length s ≤ longest) where
      pub along_begins : Begins now
      along_begins = record { whole = w.whole; count = omega (arith, w.counted, w.within); moves = w.moves; bound = w.bound }

      -- while a record is left, there is room for its line
      pub along_room : (t : Reader) (at : ℕ) (x : Stored.Record) → Turns r (Some (Ok (at, x))) t → HasRoom before events_room → HasRoom out event_room
      along_room t at x turn room = omega (arith, read_within s r.at _ _ (rw w.stream at turn.2.1), w.counted, w.left.written.near, w.left.written.long)

      abbrev Ended : Type 0
      Ended = Ends b (calls_read s) before (totals_of now) out

      done : calls_in (items_from s r.at) ≡ [] → Ended
      done none =
          record {
            text = writes_as refl (omega (arith, w.counted, w.within)) (ends_text _ _ _ _ _ _ w.left none);
            moves = ends_total _ _ _ _ _ _ w.left none;
            bound = ends_bound _ _ _ _ _ _ w.left none;
          }

      pub along_end : (t : Reader) → Turns r None t → Ended
      along_end t turn = done (calls_end s r.at (end_at s r.at (rw w.stream at turn.0)))

      pub along_bad : (t : Reader) (e : Unreadable) → Turns r (Some (Err e)) t → Ended
      along_bad t e turn = done (calls_bad s r.at (rw w.stream at turn.2))
