-- A list of tasks stored as a table, and read back. Assumes nothing.
use mathlib.Core.Path.{◌≡◌, refl, sym, ap, ap₂, ◌∙◌}
use mathlib.Core.Bool.{Bool, true, false}
use mathlib.Core.Logic.{inr}
use mathlib.Core.List.{List, [], ◌∷◌, ◌++◌, map, map-append, append-nil}
use Prim.Native.Nat.{ℕ, suc, ◌+◌, ◌≤◌, ◌<◌}
use Rattle.std.proofs.Common.{None, Some, Ok, Err}
use Rattle.std.specs.Borrow.{Bor}
use native.Mathlib.Omega.{arith}
use borrow.Author.Tests.{leb-true, leb-false}
use lib.Dec.{leb}
use lib.ListN.{length, take, set, replicate, length-append, length-map}
use lib.Seq.{append_snoc, set_out}
use Rattle.laws.proofs.Arrays.{padded, padded_length, padded_next, padded_full, padded_front}
use Rattle.rules.specs.Table as Rules
use Rattle.rules.specs.Table.{most, verdict_of}
use Rattle.rules.specs.Records.{items_from, tasks_in, tasks_read}
use Rattle.rules.proofs.Streams.{end_at, read_within, tasks_end, tasks_bad, tasks_more, tasks_same}
use Rattle.rules.proofs.Tables.{demand_1_table}
use Rattle.table.specs.declared.Table.{Table}
use Rattle.table.specs.declared.Task.{Task}
use Rattle.table.specs.Stored.{task_of, no_entry, table_of}
use Rattle.table.proofs.Tests.{table_length, table_is}
use Rattle.kernel.specs.declared.Call.{Call}
use Rattle.records.specs.declared.Record.TheVariants as Record
use Rattle.records.specs.declared.Unreadable.{Unreadable}
use Rattle.records.specs.declared.Reader.{Reader}
use Rattle.records.specs.Turns.{Turns}
use Rattle.stream.specs.Load.{stored_as, table_in, added_to}

-- ---- one task more

module _ (ts : List Rules.Task) (x : Task) where
  map_more : map stored_as (ts ++ (task_of x ∷ [])) ≡ map stored_as ts ++ (x ∷ [])
  map_more = map-append stored_as ts (task_of x ∷ [])

  same_count : length ts ≡ length (map stored_as ts)
  same_count = sym (length-map ts stored_as)

  -- where there is room it is kept, and where there is none it is not
  put_more : set (table_in ts).tasks (length ts) x ≡ padded no_entry most (map stored_as ts ++ (x ∷ []))
  unfolding table_in
  put_more = by_room (leb most (length ts)) refl
    where
      by_room : (b : Bool) → leb most (length ts) ≡ b → set (padded no_entry most (map stored_as ts)) (length ts) x ≡ padded no_entry most (map stored_as ts ++ (x ∷ []))
      by_room true e =
          let h = leb-true most (length ts) e in
          set_out (padded no_entry most (map stored_as ts)) (length ts) x (omega (arith, padded_length no_entry most (map stored_as ts)))
          ∙ sym (padded_full no_entry most (map stored_as ts) (x ∷ []) (omega (arith, same_count)))
      by_room false e =
          let h = leb-false most (length ts) e in
          ap (λ (n : ℕ). set (padded no_entry most (map stored_as ts)) n x) same_count
          ∙ padded_next no_entry most (map stored_as ts) x (omega (arith, same_count))

  -- a table that stores the list stores the list with this one behind it
  pub added_more : added_to (table_in ts) x ≡ table_in (ts ++ task_of x ∷ [])
  unfolding table_in
  added_more =
      ap₂ (λ (n : ℕ) (xs : List Task). record { count = n; tasks = xs }) (sym (length-append ts (task_of x ∷ [])))
      (put_more ∙ ap (padded no_entry most) (sym map_more))

-- a task is kept where there is room, and where there is none it is only counted
module _ (table : Table) (x : Task) (tasks : List Task) where
  abbrev IsMore : Type 0
  IsMore = ◌≡◌ {A = Table} (record { count = table.count + 1; tasks = tasks }) (added_to table x)

  pub added_kept : tasks ≡ set table.tasks table.count x → IsMore
  added_kept t = ap (λ (xs : List Task). record { count = table.count + 1; tasks = xs }) t

  pub added_past : length table.tasks ≡ most → most ≤ table.count → tasks ≡ table.tasks → IsMore
  added_past long h t = ap (λ (xs : List Task). record { count = table.count + 1; tasks = xs }) (t ∙ sym (set_out table.tasks table.count x (omega arith)))

-- ---- read back

tasks_back : (ts : List Rules.Task) → map task_of (map stored_as ts) ≡ ts
tasks_back [] = refl
tasks_back (x ∷ ts) = ap (λ (xs : List Rules.Task). x ∷ xs) (tasks_back ts)

module _ (ts : List Rules.Task) where
  pub table_count : (table_in ts).count ≡ length ts
  unfolding table_in
  table_count = refl

  pub table_places : length (table_in ts).tasks ≡ most
  unfolding table_in
  table_places = padded_length no_entry most (map stored_as ts)

  pub table_same : length ts ≤ most → table_of (table_in ts) ≡ ts
  unfolding table_in
  table_same h =
      table_is (table_in ts) table_places h
      ∙ ap (map task_of) (ap (λ (n : ℕ). take n (table_in ts).tasks) (sym (length-map ts stored_as)) ∙ padded_front no_entry most (map stored_as ts) (omega (arith, length-map ts stored_as)))
      ∙ tasks_back ts

  -- tasks that there is no room for are counted, and a table of so many is refused for their number
  pub table_verdict : verdict_of (table_of (table_in ts)) ≡ verdict_of ts
  table_verdict = by_count (leb (length ts) most) refl
    where
      by_count : (b : Bool) → leb (length ts) most ≡ b → verdict_of (table_of (table_in ts)) ≡ verdict_of ts
      by_count true e = ap verdict_of (table_same (leb-true _ _ e))
      by_count false e =
          let h = leb-false (length ts) most e in
          (demand_1_table (table_of (table_in ts))).numbers.number_1.1 (inr (omega (arith, table_length (table_in ts) table_places, table_count)))
          ∙ sym ((demand_1_table ts).numbers.number_1.1 (inr h))

-- ---- turn by turn of the stream's reader

-- a table that stores the tasks of the records ahead of the reader's place; there are no more of them than bytes
pub record Loaded (s : List ℕ) (r : Reader) (table : Table) : Type 0 where
  pub stream : r.stream.now ≡ s
  pub ahead : List Rules.Task
  pub stored : table ≡ table_in ahead
  pub few : length ahead ≤ r.at
  pub all : ahead ++ tasks_in (items_from s r.at) ≡ tasks_read s

module _ (s : List ℕ) (r : Reader) where
  pub loaded_start : (r.stream.now ≡ s) × (r.at ≡ 0) → Loaded s r (record { count = 0; tasks = replicate most no_entry })
  unfolding table_in
  loaded_start e = record { stream = e.0; ahead = []; stored = refl; few = omega arith; all = rw e.1 }

  module _ (t : Reader) (table : Table) (now : Loaded s r table) where
    abbrev behind : List Rules.Task → List Rules.Task
    behind ts = now.ahead ++ ts

    done : tasks_in (items_from s r.at) ≡ [] → table ≡ table_in (tasks_read s)
    done e = now.stored ∙ ap table_in (sym (append-nil now.ahead) ∙ ap behind (sym e) ∙ now.all)

    pub loaded_end : Turns r None t → table ≡ table_in (tasks_read s)
    loaded_end w = done (tasks_end s r.at (end_at s r.at (rw now.stream at w.0)))

    pub loaded_bad : (e : Unreadable) → Turns r (Some (Err e)) t → table ≡ table_in (tasks_read s)
    loaded_bad e w = done (tasks_bad s r.at (rw now.stream at w.2))

    module _ (at : ℕ) where
      pub loaded_event : (c : Call) → Turns r (Some (Ok (at, Record.Event c))) t → Loaded s t table
      loaded_event c w =
          record {
            stream = ap (λ (b : Bor (List ℕ)). b.now) w.1 ∙ now.stream;
            ahead = now.ahead;
            stored = now.stored;
            few = omega (arith, now.few, w.2.2);
            all = rw w.2.2 (ap behind (sym (tasks_same s r.at _ _ (rw now.stream at w.2.1))) ∙ now.all);
          }

      module _ (x : Task) (w : Turns r (Some (Ok (at, Record.Task x))) t) where
        within : (6 ≤ w.2.0) × (r.at + w.2.0 ≤ length s)
        within = read_within s r.at _ _ (rw now.stream at w.2.1)

        pub loaded_room : suc table.count < length s
        loaded_room = omega (arith, ap (λ (y : Table). y.count) now.stored, table_count now.ahead, now.few, within)

        pub loaded_task : (more : Table) → more ≡ added_to table x → Loaded s t more
        loaded_task more f =
            record {
              stream = ap (λ (b : Bor (List ℕ)). b.now) w.1 ∙ now.stream;
              ahead = now.ahead ++ task_of x ∷ [];
              stored = f ∙ ap (λ (y : Table). added_to y x) now.stored ∙ added_more now.ahead x;
              few = omega (arith, length-append now.ahead (task_of x ∷ []), now.few, w.2.2, within);
              all =
                  rw w.2.2
                  (append_snoc now.ahead (task_of x) (tasks_in (items_from s (r.at + w.2.0))) ∙ ap behind (sym (tasks_more s r.at _ _ (rw now.stream at w.2.1))) ∙ now.all);
            }
