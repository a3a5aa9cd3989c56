use mathlib.Core.Path.{sym, ◌∙◌}
use native.Mathlib.Omega.{arith}
use Rattle.rules.proofs.Readable.{stream_numbers}
use Rattle.stream.proofs.Tests.{short_enough}
use Rattle.stream.proofs.stream_test.Goals as goal

pub returns-then-stream-gt-LONGEST : goal.returns-then-stream-gt-LONGEST
returns-then-stream-gt-LONGEST c = sym ((stream_numbers c.args.stream.now).number_14.1 (omega arith))

pub returns : goal.returns
returns c = c.records_test.ensures ∙ sym (short_enough c.args.stream.now (omega arith))
