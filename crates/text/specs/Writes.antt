-- What a call writes behind what a text holds already.
use Rattle.std.specs.Prelude.{ℕ, ◌+◌, ◌≤◌, ◌≡◌, List, length}
use Rattle.laws.specs.Words.{Puts}
use Rattle.text.specs.declared.Text.{Text}

-- there is room for n more bytes
abbrev pub HasRoom : Text → ℕ → Type 0
HasRoom t n = t.at + n ≤ length t.buffer.now

-- these bytes, n at most, are put behind what has been written; the buffer is the same one, and as long as it was
pub record Writes (before : Text) (bytes : List ℕ) (n : ℕ) (after : Text) : Type 0 where
  pub same : after.buffer.ghost_name ≡ before.buffer.ghost_name
  pub long : length after.buffer.now ≡ length before.buffer.now
  pub put : Puts before.buffer.now before.at bytes after.at after.buffer.now
  pub near : after.at ≤ before.at + n
