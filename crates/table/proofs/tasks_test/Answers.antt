use mathlib.Core.Path.{◌≡◌, sym, ◌∙◌}
use native.Mathlib.Omega.{arith}
use lib.ListN.{length}
use Rattle.laws.proofs.Arrays.{long_map}
use Rattle.rules.specs.Table.{most}
use Rattle.table.proofs.Tests.{own, own_length, turn_range, turn_order, turn_next, turn_end}
use Rattle.table.proofs.tasks_test.Goals as goal
use Rattle.table.proofs.tasks_test.Goals.{Start}

long : (c : Start) → length c.args.table.tasks ≡ most
long c = search long_map

size : (c : Start) → length (own c.args.table) ≡ c.args.table.count
size c = own_length c.args.table (long c) c.requires

pub returns-then-not-is_ranged : goal.returns-then-not-is_ranged
returns-then-not-is_ranged c =
    let s = (goal.at.returns-then-not-is_ranged c).Start in
    sym (turn_range s.args.table (long s) s.requires c.loop-i.i (omega (arith, size s, c.loop-i-test.true)) (sym c.is_ranged.ensures ∙ c.if-not-is_ranged.true)) ∙ c.loop-i.invariant

pub returns-then-not-is_ordered : goal.returns-then-not-is_ordered
returns-then-not-is_ordered c =
    let s = (goal.at.returns-then-not-is_ordered c).Start in
    sym (turn_order s.args.table (long s) s.requires c.loop-i.i (omega (arith, size s, c.loop-i-test.true)) (sym c.is_ranged.ensures ∙ c.if-not-is_ranged.false)
    (sym c.is_ordered.ensures ∙ c.if-not-is_ordered.true)) ∙ c.loop-i.invariant

pub loop-i-preserved : goal.loop-i-preserved
loop-i-preserved c =
    let s = (goal.at.loop-i-preserved c).Start in
    sym (turn_next s.args.table (long s) s.requires c.loop-i.i (omega (arith, size s, c.loop-i-test.true)) (sym c.is_ranged.ensures ∙ c.if-not-is_ranged.false)
    (sym c.is_ordered.ensures ∙ c.if-not-is_ordered.false)) ∙ c.loop-i.invariant

pub returns : goal.returns
returns c =
    let s = (goal.at.returns c).Start in
    sym (turn_end s.args.table (long s) s.requires c.loop-i.i (omega (arith, size s, c.loop-i-test.false))) ∙ c.loop-i.invariant
