use mathlib.Core.Path.{◌≡◌}
use Prim.Native.Nat.{◌≤◌, ◌<◌}
use native.Mathlib.Omega.{arith}
use lib.ListN.{length}
use Rattle.laws.proofs.Arrays.{long_map}
use Rattle.rules.specs.Table.{most}
use Rattle.table.proofs.Tests.{own, own_length, few_passed, at_passed, share_passed, load_turn, load_end}
use Rattle.table.proofs.load.Goals as goal
use Rattle.table.proofs.load.Goals.{Start}

long : (c : Start) → length c.args.table.tasks ≡ most
long c = search long_map

few : (c : Start) → c.args.table.count ≤ most
few c = few_passed c.args.table (long c) c.requires

size : (c : Start) → length (own c.args.table) ≡ c.args.table.count
size c = own_length c.args.table (long c) (few c)

pub shared_ref_as_front-tasks : goal.shared_ref_as_front-tasks
shared_ref_as_front-tasks c = few (goal.at.shared_ref_as_front-tasks c).Start

pub share-sum-requires : goal.share-sum-requires
share-sum-requires c =
    let s = (goal.at.share-sum-requires c).Start in
    let g = at_passed s.args.table (long s) s.requires c.loop-task.task-index (omega (arith, size s, c.loop-task-test.true)) in
    (g.0.0.1, g.0.2.0)

pub overflow_add-sum : goal.overflow_add-sum
overflow_add-sum c =
    let s = (goal.at.overflow_add-sum c).Start in
    omega (arith, few s, size s, c.share-sum.ensures, share_passed s.args.table (long s) s.requires c.loop-task.task-index (omega (arith, size s, c.loop-task-test.true)))

pub loop-task-preserved : goal.loop-task-preserved
loop-task-preserved c =
    let s = (goal.at.loop-task-preserved c).Start in
    let h : c.loop-task.task-index < s.args.table.count = omega (arith, size s, c.loop-task-test.true) in (
      omega (arith, c.share-sum.ensures, load_turn s.args.table (long s) s.requires c.loop-task.task-index h),
      omega (arith, c.share-sum.ensures, share_passed s.args.table (long s) s.requires c.loop-task.task-index h),
    )

pub returns : goal.returns
returns c =
    let s = (goal.at.returns c).Start in
    let end : c.loop-task.task-index ≡ s.args.table.count = omega (arith, size s) in
    omega (arith, rw end at c.loop-task.invariant.0, load_end s.args.table (long s) s.requires)
