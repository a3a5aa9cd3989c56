use Rattle.std.proofs.Common.{rules, arith, refl, subst}
use Rattle.std.specs.Io.KnownBytes.{Consumes}
use Rattle.std.proofs.KnownBytes.{Consumes-trans}
use Rattle.files.proofs.Inputs.{front_grows, all_given, full_given}
use Rattle.files.proofs.read_all.Goals as goal

pub loop-at-preserved : goal.loop-at-preserved
loop-at-preserved g c =
    let before = c.loop-at.invariant in
    let got = c.in_ok-more.ensures in
    let more = front_grows c.loop-at.at _ c.in_ok-more.more _ c.loop-at.buffer c.read.new.buf refl before.1 got.bound.0 in
    (search rules, search rules, subst (Consumes _ _) more (Consumes-trans _ _ _ _ _ before.2 got.bytes.0))

pub returns-after-loop-at-clause-known : goal.returns-after-loop-at-clause-known
returns-after-loop-at-clause-known g c = full_given c.loop-at.at c.loop-at.buffer _ _ c.loop-at-test.false c.loop-at.invariant.2

pub returns-in-0-clause-taken : goal.returns-in-0-clause-taken
returns-in-0-clause-taken g c =
    let before = c.loop-at.invariant in
    let got = c.in_ok-more.ensures in
    let none = front_grows c.loop-at.at _ c.in_ok-more.more c.loop-at.at c.loop-at.buffer c.read.new.buf (omega (arith, c.in-0.is)) before.1 got.bound.0 in
    subst (Consumes _ _) none (Consumes-trans _ _ _ _ _ before.2 got.bytes.0)

pub returns-in-0-clause-known : goal.returns-in-0-clause-known
returns-in-0-clause-known g c =
    all_given c.loop-at.at _ _ _ (returns-in-0-clause-taken g c) (c.in_ok-more.ensures.bytes.1 c.in-0.is (search rules))
