-- Room for the longest line of each kind.
use Rattle.std.specs.Prelude.{ℕ, ◌+◌, ◌*◌}
use Rattle.text.specs.Room.{number_room, column_room}

-- a blank, a sign and a number
abbrev pub margin_room : ℕ
margin_room = 1 + column_room

-- the lines X and S: a letter, two columns, a line's end
abbrev pub numbers_room : ℕ
numbers_room = 2 + 2 * column_room

-- n points: a column, a colon and a number each
abbrev pub points_room : ℕ → ℕ
points_room n = (column_room + 1 + number_room) * n

-- a P line with n points: a letter, two columns, the points, a line's end
abbrev pub plan_room : ℕ → ℕ
plan_room n = 2 + 2 * column_room + points_room n

-- an E line: a letter, five columns, the margin, a line's end
abbrev pub event_room : ℕ
event_room = 2 + 5 * column_room + margin_room
