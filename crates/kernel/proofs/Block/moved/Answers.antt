use borrow.Author.Rules.{rules}
use Rattle.kernel.proofs.Commits.{ticks, promotable, releveled_moves, releveled_keeps, moved_does}
use Rattle.kernel.proofs.Block.moved.Goals as goal

pub relevel-moves-requires : goal.relevel-moves-requires
relevel-moves-requires c =
    let e = c.at.ensures in
    rw (e.0, e.1, e.2) (promotable c.requires (rw e.0 at c.at.result.sized) _ (search (rules, ticks c.requires)))

pub returns : goal.returns
returns c =
    let e = c.at.ensures in
    let x = c.relevel-moves in
    let done = rw (e.0, e.1, e.2) at x.ensures in
    moved_does c.requires _ (releveled_keeps c.requires x.result done) _ (releveled_moves c.requires x.result done) c.accepted.ensures
