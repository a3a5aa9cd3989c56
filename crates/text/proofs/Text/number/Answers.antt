use Rattle.std.proofs.Common.{ap, ◌∙◌, rules, arith, length}
use Rattle.std.proofs.lemmas.List.{take_all}
use Rattle.text.proofs.Writes.{writes_as, writes_next}
use Rattle.text.proofs.Decimal.{decimal_text}
use Rattle.text.proofs.Text.number.Goals as goal

pub loop-byte-preserved : goal.loop-byte-preserved
loop-byte-preserved c = writes_next c.as_bytes-byte-items.result.now _ c.loop-byte.invariant c.loop-byte-test.true c.byte.ensures

pub returns : goal.returns
returns c =
    let text = c.format.ensures.text in
    let few = c.format.ensures.fits in
    let same = c.as_bytes-byte-items.ensures.value in
    let number = decimal_text c.args.n (search rules) (rw text at few) in
    writes_as (take_all _ _ c.loop-byte-test.false ∙ same ∙ text ∙ number) (omega (arith, few, ap length same)) c.loop-byte.invariant
