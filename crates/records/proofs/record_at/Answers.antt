use Rattle.std.proofs.Common.{sym, ◌∙◌, arith}
use Rattle.std.proofs.lemmas.Result.{err_from_is_err_and}
use Rattle.rules.proofs.Streams.{at_end}
use Rattle.records.proofs.Marks.{short_at, unknown_at, cut_at, whole_at}
use Rattle.records.proofs.record_at.Goals as goal

pub returns-then-stream-at-clause-found : goal.returns-then-stream-at-clause-found
returns-then-stream-at-clause-found c = sym (at_end _ _ c.if-stream-at.true)

pub returns-then-stream-at-lt2-clause-found : goal.returns-then-stream-at-lt2-clause-found
returns-then-stream-at-lt2-clause-found c = sym (short_at _ _ c.if-stream-at.false (omega arith))

pub returns-in_err-mark-clause-found : goal.returns-in_err-mark-clause-found
returns-in_err-mark-clause-found c =
    let p = err_from_is_err_and c.from_residual.result c.from_residual.ensures.1 in
    rw p.1 (sym (unknown_at _ _ c.if-stream-at.false (sym c.in_err-mark.ensures.ok_part ∙ c.of.ensures)))

pub returns-then-stream-at-2-clause-found : goal.returns-then-stream-at-2-clause-found
returns-then-stream-at-2-clause-found c =
    sym (cut_at _ _ c.if-stream-at.false c.in_ok-mark.mark (sym c.in_ok-mark.ensures.ok_part ∙ c.of.ensures) (omega (arith, c.size-size.ensures)))

pub returns-clause-found : goal.returns-clause-found
returns-clause-found c =
    rw c.size-size.ensures
    (c.body_at.ensures ∙ sym (whole_at _ _ c.if-stream-at.false c.in_ok-mark.mark (sym c.in_ok-mark.ensures.ok_part ∙ c.of.ensures) (omega (arith, c.size-size.ensures))))
