-- The P lines that are left. Assumes nothing.
use mathlib.Core.Path.{◌≡◌, refl, sym, ◌∙◌}
use mathlib.Core.List.{List, [], ◌++◌, append_assoc, append-nil}
use Prim.Native.Nat.{ℕ, suc, ◌+◌, ◌-◌, ◌*◌, ◌≤◌, ◌<◌}
use native.Mathlib.Omega.{arith}
use lib.ListN.{length}
use Rattle.rules.specs.Table.{Task, most}
use Rattle.rules.specs.Lines.{plan_line_of, plan_lines}
use Rattle.rules.specs.Text.{plan_text, plans_text}
use Rattle.text.specs.declared.Text.{Text}
use Rattle.text.specs.Writes.{HasRoom, Writes}
use Rattle.text.proofs.Writes.{writes_none, writes_then, writes_as}
use Rattle.lines.specs.Room.{plan_room}

-- the lines of all tasks
abbrev all_lines : List Task → List ℕ
all_lines table = plans_text (plan_lines table (length table) 1)

-- with n lines left from task k up, where so much is written, the whole comes to all lines
pub record PlansLeft (table : List Task) (before : Text) (k n : ℕ) (now : Text) : Type 0 where
  pub text : List ℕ
  pub written : Writes before text ((k - 1) * plan_room most) now
  pub lines : text ++ plans_text (plan_lines table n k) ≡ all_lines table

module _ (table : List Task) (before : Text) where
  plans_all : PlansLeft table before 1 (length table) before
  plans_all = record { text = []; written = writes_none before; lines = refl }

  plans_next : (k n : ℕ) {now next : Text} → 1 ≤ k → PlansLeft table before k (suc n) now → Writes now (plan_text (plan_line_of table k)) (plan_room most) next
      → PlansLeft table before (suc k) n next
  unfolding plan_lines plans_text
  plans_next k n low l w =
      record {
        text = l.text ++ plan_text (plan_line_of table k);
        written = writes_as refl (omega arith) (writes_then l.written w);
        lines = append_assoc l.text (plan_text (plan_line_of table k)) _ ∙ l.lines;
      }

  -- before the line of task k, of all that there are
  pub record Planning (k : ℕ) (now : Text) : Type 0 where
    pub low : 1 ≤ k
    pub high : k ≤ suc (length table)
    pub left : PlansLeft table before k (suc (length table) - k) now

  pub planning_first : Planning 1 before
  planning_first =
      let e : suc (length table) - 1 ≡ length table = omega arith in
      record { low = omega arith; high = omega arith; left = rw e plans_all }

  module _ {k : ℕ} {now : Text} (p : Planning k now) where
    pub planning_next : k ≤ length table → {next : Text} → Writes now (plan_text (plan_line_of table k)) (plan_room most) next → Planning (k + 1) next
    planning_next h w =
        let e : suc (length table) - k ≡ suc (length table - k) = omega arith in
        let f : suc (length table) - (k + 1) ≡ length table - k = omega arith in
        let m : k + 1 ≡ suc k = omega arith in
        record {
          low = omega arith;
          high = omega arith;
          left = rw (f, m) (plans_next k (length table - k) p.low (rw e at p.left) w);
        }

    pub planning_room : length table ≤ most → k ≤ length table → HasRoom before (most * plan_room most) → HasRoom now (plan_room most)
    planning_room few h room = omega (arith, p.left.written.near, p.left.written.long, p.low)

    pub planning_end : length table ≤ most → length table < k → Writes before (all_lines table) (most * plan_room most) now
    unfolding plan_lines plans_text
    planning_end few h =
        let e : suc (length table) - k ≡ 0 = omega (arith, p.high) in
        let l : PlansLeft table before k 0 now = rw e at p.left in
        writes_as (sym (append-nil l.text) ∙ l.lines) (omega (arith, p.high)) l.written
