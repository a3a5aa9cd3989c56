use Rattle.std.proofs.Common.{take}
use Rattle.text.specs.Writes.{Writes}
use Rattle.text.proofs.Text.number.Given as goal

-- so many bytes of the number are written
abbrev pub invariant-loop-byte : goal.invariant-loop-byte
invariant-loop-byte l = Writes l.initial.self (take l.byte-index l.byte-items) l.byte-index l.self
