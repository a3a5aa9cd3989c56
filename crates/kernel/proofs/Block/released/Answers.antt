use mathlib.Core.Path.{◌≡◌}
use Prim.Native.Nat.{suc}
use native.Mathlib.Omega.{arith}
use borrow.Author.Rules.{rules}
use lib.ListN.{length}
use Rattle.laws.proofs.Arrays.{long_map}
use Rattle.rules.specs.Table.{most}
use Rattle.kernel.proofs.Commits.{ticks, promotable, releveled_moves, releveled_keeps, place, released_task, enterable, begun_does}
use Rattle.kernel.proofs.Block.released.Goals as goal

pub relevel-moves-requires : goal.relevel-moves-requires
relevel-moves-requires c =
    let e = c.at-moment.ensures in
    rw (e.0, e.1, e.2) (promotable c.requires (rw e.0 at c.at-moment.result.sized) _ (search (rules, ticks c.requires)))

pub bounds-moment-k : goal.bounds-moment-k
bounds-moment-k c =
    let all : length c.args.self.jobs ≡ suc most = search (rules, long_map) in
    omega (arith, place c.requires all c.args.task.0 (released_task c.requires), all)

pub enter-after-requires : goal.enter-after-requires
enter-after-requires c =
    let e = c.at-moment.ensures in
    let x = c.relevel-moves in
    let done = rw (e.0, e.1, e.2) at x.ensures in
    rw (e.0, e.1, e.2) (enterable c.requires (search (rules, long_map)) (rw e.0 at c.at-moment.result.sized) (releveled_keeps c.requires x.result done))

pub returns : goal.returns
returns c =
    let e = c.at-moment.ensures in
    let x = c.relevel-moves in
    let done = rw (e.0, e.1, e.2) at x.ensures in
    let enters = rw (e.0, e.1, e.2) at (c.enter-after.ensures _ (releveled_keeps c.requires x.result done)) in
    begun_does c.requires (search (rules, long_map)) (rw e.0 at c.at-moment.result.sized) _ (releveled_moves c.requires x.result done) c.enter-after.result enters
    (rw e.1 at c.accepted.ensures)
