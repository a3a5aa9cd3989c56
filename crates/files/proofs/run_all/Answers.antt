use Rattle.std.proofs.Common.{OnOk, rules}
use Rattle.std.proofs.lemmas.Result.{IfOk-at_ok}
use Rattle.std.specs.Io.KnownBytes.{Appends}
use Rattle.rules.specs.Runner.{output_of}
use Rattle.files.specs.Ends.{EndsAs}
use Rattle.files.proofs.Inputs.{of_front, value_kept}
use Rattle.files.proofs.run_all.Goals as goal

pub returns-clause-ends : goal.returns-clause-ends
returns-clause-ends g c =
    let read = IfOk-at_ok _ c.in_ok-length.was (value_kept _ _ _ _ c.map_err.ensures.cases c.map_err.ensures.variant c.read_all.ensures.known) in
    of_front _ _ _ (λ s. EndsAs s c.map_err-2.result) (search rules) read
    (value_kept _ _ _ _ c.map_err-2.ensures.cases c.map_err-2.ensures.variant c.print.ensures.ends)

pub returns-clause-written : goal.returns-clause-written
returns-clause-written g c =
    let read = IfOk-at_ok _ c.in_ok-length.was (value_kept _ _ _ _ c.map_err.ensures.cases c.map_err.ensures.variant c.read_all.ensures.known) in
    of_front _ _ _ (λ s. OnOk c.map_err-2.result (Appends (g.W.Write.contents c.args.to.now) (g.W.Write.contents c.print.new.to) (output_of s))) (search rules) read
    (value_kept _ _ _ _ c.map_err-2.ensures.cases c.map_err-2.ensures.variant c.print.ensures.written)
