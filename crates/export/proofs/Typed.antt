-- What a call or a start gives back by value has arrays as long as their types say. Assumes nothing.
use mathlib.Core.List.{List}
use mir.Val.{Val}
use denote.Laws.{Is}
use denote.Struct.Declared.{row}
use borrow.Author.Rules.{rules}
use Rattle.laws.proofs.Arrays.{long_map}
use Rattle.kernel.specs.declared.Called.{Called}
use Rattle.kernel.specs.declared.start.Started.{Started}
use Rattle.kernel.specs.Block.{Sizes}
use Rattle.kernel.specs.contracts.Called as Called
use Rattle.kernel.specs.contracts.start.Started as Started

pub called_sizes : (called : Called) (vs : List Val) → Is (row Called.the_type) called vs → Sizes called.block
called_sizes called vs is = search (rules, long_map)

pub started_sizes : (started : Started) (vs : List Val) → Is (row Started.the_type) started vs → Sizes started.block
started_sizes started vs is = search (rules, long_map)
