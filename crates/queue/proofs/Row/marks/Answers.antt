use mathlib.Core.Path.{◌≡◌, refl}
use Prim.Native.Nat.{suc}
use native.Mathlib.Omega.{arith}
use borrow.Author.Rules.{rules}
use Rattle.lists.specs.Marks.{marked}
use Rattle.queue.specs.Row.{row_tasks}
use Rattle.queue.proofs.Rows.{marked_next}
use Rattle.queue.proofs.Row.marks.Goals as goal

pub loop-i-init : goal.loop-i-init
unfolding marked row_tasks
loop-i-init c = (search rules, refl)

pub bounds-seen-self-in-loop-i : goal.bounds-seen-self-in-loop-i
bounds-seen-self-in-loop-i c = omega (arith, c.requires (suc c.loop-i.i) (omega arith))

pub loop-i-preserved : goal.loop-i-preserved
loop-i-preserved c = (search rules, marked_next _ _ _ _ c.loop-i.invariant.1)

pub returns : goal.returns
unfolding marked
returns c =
    let e : c.loop-i.i ≡ c.args.self.now.n = omega arith in
    rw e at c.loop-i.invariant.1
