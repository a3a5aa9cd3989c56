use mathlib.Core.Path.{◌≡◌}
use mathlib.Core.Bool.{true, false}
use borrow.Author.Rules.{rules}
use borrow.Author.Tests.{not-true, not-false}
use Rattle.laws.proofs.Arrays.{long_map}
use Rattle.laws.proofs.Bools.{decides_same}
use Rattle.lists.specs.Links.{Sized}
use Rattle.lists.specs.Answers.{lists_of}
use Rattle.stored.proofs.Deciding.{tests_hold, holds_first, holds_last, holds_map, holds_listed}
use Rattle.stored.proofs.holds_lists.Goals as goal
use Rattle.stored.proofs.holds_lists.Goals.{Start}

-- from what is known where the function begins
sized : (a : Start) → Sized (lists_of a.args.stored)
sized a = search (rules, long_map)

pub returns-then-first-ne0 : goal.returns-then-first-ne0
returns-then-first-ne0 c = λ h. c.if-first-ne0.true (holds_first h)

pub returns-then-last-ne0 : goal.returns-then-last-ne0
returns-then-last-ne0 c = λ h. c.if-last-ne0.true (holds_last h)

pub returns-then-not-map_true : goal.returns-then-not-map_true
returns-then-not-map_true c = λ h. let e : c.map_true.result ≡ false = search (rules, not-true) in (rw e at c.map_true.ensures) (holds_map h)

pub returns : goal.returns
returns c =
    let e : c.map_true.result ≡ true = search (rules, not-false) in
    let m = rw e at c.map_true.ensures in
    let s = sized (goal.at.returns c).Start in
    let f = c.if-first-ne0.false in
    decides_same _ _ c.lists_hold.result (tests_hold s f c.if-last-ne0.false m) holds_listed c.lists_hold.ensures
