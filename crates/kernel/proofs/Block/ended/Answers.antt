use mathlib.Core.Path.{◌≡◌}
use Prim.Native.Nat.{suc}
use native.Mathlib.Omega.{arith}
use borrow.Author.Rules.{rules}
use lib.ListN.{length}
use Rattle.laws.proofs.Arrays.{long_map}
use Rattle.rules.specs.Table.{most}
use Rattle.kernel.proofs.Commits.{ticks, promotable, releveled_moves, releveled_keeps, place, running_task, running_dated, margin_held, ended_does}
use Rattle.kernel.proofs.Block.ended.Goals as goal

pub time_left-margin-requires : goal.time_left-margin-requires
time_left-margin-requires c = let e = c.at-moment.ensures in rw (e.0, e.1, e.2) (running_dated c.requires)

pub relevel-moves-requires : goal.relevel-moves-requires
relevel-moves-requires c =
    let e = c.at-moment.ensures in
    rw (e.0, e.1, e.2) (promotable c.requires (rw e.0 at c.at-moment.result.sized) _ (search (rules, ticks c.requires)))

pub bounds-self-k : goal.bounds-self-k
bounds-self-k c =
    let all : length c.args.self.jobs ≡ suc most = search (rules, long_map) in
    omega (arith, place c.requires all c.args.task.0 (running_task c.requires), all)

pub bounds-self-k-2 : goal.bounds-self-k-2
bounds-self-k-2 c =
    let all : length c.args.self.jobs ≡ suc most = search (rules, long_map) in
    omega (arith, place c.requires all c.args.task.0 (running_task c.requires), all)

pub leave-after-requires : goal.leave-after-requires
leave-after-requires c =
    let e = c.at-moment.ensures in
    let x = c.relevel-moves in
    record { ready = _; keeps = releveled_keeps c.requires x.result (rw (e.0, e.1, e.2) at x.ensures) }

pub returns : goal.returns
returns c =
    let e = c.at-moment.ensures in
    let x = c.relevel-moves in
    let done = rw (e.0, e.1, e.2) at x.ensures in
    ended_does c.requires (search (rules, long_map)) _ (margin_held c.requires c.time_left-margin.result (rw (e.0, e.1, e.2) at c.time_left-margin.ensures))
    _ (releveled_moves c.requires x.result done) c.leave-after.result (c.leave-after.ensures _ (releveled_keeps c.requires x.result done)) c.accepted.ensures
