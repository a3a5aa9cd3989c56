use mathlib.Core.Path.{◌≡◌}
use native.Mathlib.Omega.{arith}
use borrow.Author.Rules.{rules}
use lib.ListN.{length}
use Rattle.laws.proofs.Arrays.{long_map}
use Rattle.rules.specs.Table.{most}
use Rattle.run.proofs.Steps.{laid_whole}
use Rattle.run.proofs.Output.{passed_short, report_written}
use Rattle.run.proofs.lines.Goals as goal
use Rattle.run.proofs.lines.Goals.{Start}

long : (c : Start) → length c.args.block.tasks.table.tasks ≡ most
long c = search (rules, long_map)

pub plan_lines-requires : goal.plan_lines-requires
plan_lines-requires c = let s = c in (laid_whole s.args.block s.requires.0.whole (long (goal.at.plan_lines-requires c).Start), omega (arith, s.requires.1))

pub events-totals-requires : goal.events-totals-requires
events-totals-requires c = let s = c in
    (s.requires.0.whole, passed_short s.args.stream.now s.requires.0.passed, omega (arith, s.requires.1, c.plan_lines.ensures.near, c.plan_lines.ensures.long))

pub returns : goal.returns
returns c = let s = c in let events = c.events-totals.ensures in
    report_written s.args.stream.now s.args.block s.requires.0 c.plan_lines.ensures events.text c.sum_line.ensures events.moves events.bound
