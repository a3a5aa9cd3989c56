-- Room for the longest text that a function can put.
use Rattle.std.specs.Prelude.{ℕ, ◌+◌}

-- 20 digits are enough for 64 bits
abbrev pub number_room : ℕ
number_room = 20

-- behind a sign, or behind a blank
abbrev pub column_room : ℕ
column_room = 1 + number_room
