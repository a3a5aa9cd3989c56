use mathlib.Core.Path.{sym}
use Rattle.rules.proofs.Tables.{to_3_failed}
use Rattle.table.specs.Stored.{table_of}
use Rattle.table.proofs.Tests.{overloaded, sound}
use Rattle.table.proofs.table_test.Goals as goal

pub returns-then-load-gt-FULL_LOAD : goal.returns-then-load-gt-FULL_LOAD
returns-then-load-gt-FULL_LOAD c = sym (overloaded _ (sym (c.in-Ok.ensures)) (rw c.load.ensures at c.if-load-gt-FULL_LOAD.true))

pub returns-else-load-gt-FULL_LOAD : goal.returns-else-load-gt-FULL_LOAD
returns-else-load-gt-FULL_LOAD c = sym (sound _ (sym (c.in-Ok.ensures)) (rw c.load.ensures at c.if-load-gt-FULL_LOAD.false))

pub returns-in-Err : goal.returns-in-Err
returns-in-Err c = sym (to_3_failed (table_of c.args.table) _ (sym (c.in-Err.ensures)))
