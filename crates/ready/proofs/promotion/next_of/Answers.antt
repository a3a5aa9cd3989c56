use mathlib.Core.Path.{◌≡◌, ap, ◌∙◌}
use Prim.Native.Nat.{ℕ}
use lib.Dec.{ltb}
use Rattle.table.proofs.Tests.{table_length}
use Rattle.levels.proofs.Copies.{front_few, front_copy, front_size, front_copied, front_leavable}
use Rattle.jobs.specs.Kept.{levels_in}
use Rattle.jobs.proofs.Keeping.{level_held}
use Rattle.ready.proofs.Fronts.{not_left_stays, left_goes}
use Rattle.ready.proofs.promotion.next_of.Goals as goal
use Rattle.ready.proofs.promotion.next_of.Goals.{After-has_left}

pub shared_ref_as_front-rising : goal.shared_ref_as_front-rising
shared_ref_as_front-rising c = let m = c.args.moment.now in front_few c.requires.known.copy (table_length m.tasks.table m.sized)

pub has_left-requires : goal.has_left-requires
has_left-requires c = let m = c.args.moment.now in front_leavable c.requires.known.copy (table_length m.tasks.table m.sized) c.requires.low c.requires.high

pub level_in-requires : goal.level_in-requires
level_in-requires c = let m = c.args.moment.now in front_copied c.requires.known.copy (table_length m.tasks.table m.sized)

-- has_left and level_in tell of the level that the remaining time has
told : (c : After-has_left) → let a = c.args in c.has_left.result ≡ ltb (levels_in a.moment.now a.task.0) a.level.0
told c =
    let m = c.args.moment.now in
    c.has_left.ensures _ (front_copy c.requires.known.copy (table_length m.tasks.table m.sized)) c.requires.high
    ∙ ap (λ (n : ℕ). ltb n c.args.level.0) (level_held m.tasks m.jobs m.time _ c.requires.known _ c.time_left-left.ensures)

pub returns-then-not-has_left : goal.returns-then-not-has_left
returns-then-not-has_left c = not_left_stays _ _ (told (goal.at.returns-then-not-has_left c).After-has_left) c.if-not-has_left.true

pub returns : goal.returns
returns c =
    let m = c.args.moment.now in
    let size = table_length m.tasks.table m.sized in
    left_goes _ _ (told (goal.at.returns c).After-has_left) c.level_in.result c.if-not-has_left.false
    (c.level_in.ensures _ (front_copy c.requires.known.copy size) (front_size c.requires.known.copy size)
    ∙ level_held m.tasks m.jobs m.time _ c.requires.known _ c.time_left-left.ensures)
