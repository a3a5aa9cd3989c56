use mathlib.Core.Path.{◌≡◌, sym, ◌∙◌}
use lib.ListN.{length}
use Rattle.rules.specs.Table.{most}
use Rattle.laws.proofs.Arrays.{long_map}
use Rattle.table.proofs.Tests.{none_refused, many_refused, counted}
use Rattle.table.proofs.tests_to_3.Goals as goal
use Rattle.table.proofs.tests_to_3.Goals.{Start}

long : (c : Start) → length c.args.table.tasks ≡ most
long c = search long_map

pub returns-then-count-lt1 : goal.returns-then-count-lt1
returns-then-count-lt1 c = sym (none_refused c.args.table (long (goal.at.returns-then-count-lt1 c).Start) c.if-count-lt1.true)

pub returns-then-count-gt-MOST : goal.returns-then-count-gt-MOST
returns-then-count-gt-MOST c = let a = c in sym (many_refused a.args.table (long (goal.at.returns-then-count-gt-MOST c).Start) c.if-count-lt1.false c.if-count-gt-MOST.true)

pub returns : goal.returns
returns c = let a = c in
    c.tasks_test.ensures ∙ sym (counted a.args.table (long (goal.at.returns c).Start) c.if-count-lt1.false c.if-count-gt-MOST.false)
