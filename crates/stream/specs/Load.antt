-- A list of tasks as a stored table.
use Rattle.std.specs.Prelude.{◌+◌, List, ◌++◌, map, length, take, set, replicate}
use Rattle.rules.specs.Table as Rules
use Rattle.table.specs.declared.Table.{Table}
use Rattle.table.specs.declared.Task.{Task}
use Rattle.table.specs.Stored.{no_entry}
use Rattle.rules.specs.Table.{most}

abbrev pub stored_as : Rules.Task → Task
stored_as x = record { c = x.c; d = x.d; t = x.t }

-- how many there are, and the first of them, as many as there is room for; zeros behind them
unfoldable pub table_in : List Rules.Task → Table
table_in ts = record { count = length ts; tasks = take most (map stored_as ts ++ replicate most no_entry) }

-- one task more: counted, and put at the place behind the others; past the last place `set` changes nothing
abbrev pub added_to : Table → Task → Table
added_to table x = record { count = table.count + 1; tasks = set table.tasks table.count x }
