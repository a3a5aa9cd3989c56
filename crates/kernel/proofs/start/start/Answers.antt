use mathlib.Core.Path.{sym}
use borrow.Author.Rules.{rules}
use Rattle.laws.proofs.Arrays.{long_map}
use Rattle.rules.proofs.Tables.{sound_to_3}
use Rattle.table.specs.Stored.{table_of}
use Rattle.table.proofs.Tests.{few_passed}
use Rattle.kernel.proofs.start.start.Goals as goal

pub rising-requires : goal.rising-requires
rising-requires c = few_passed c.args.table (search (rules, long_map)) (sound_to_3 (table_of c.args.table) (sym (c.in-Ok.ensures)))
