use mathlib.Core.Path.{◌≡◌}
use borrow.Author.Rules.{rules}
use lib.ListN.{length}
use Rattle.laws.proofs.Arrays.{long_map}
use Rattle.rules.specs.Table.{most}
use Rattle.kernel.specs.Calls.{call_in}
use Rattle.run.proofs.Steps.{boundable_whole}
use Rattle.run.proofs.events.event.Goals as goal
use Rattle.run.proofs.events.event.Goals.{Start}

long : (c : Start) → length c.args.progress.block.tasks.table.tasks ≡ most
long c = search (rules, long_map)

pub bound_by-requires : goal.bound_by-requires
bound_by-requires c = let d = c in let s = d in
    boundable_whole s.args.progress.block s.requires.0.whole (call_in s.args.event) d.call-called.result d.call-called.ensures (long (goal.at.bound_by-requires c).Start)
