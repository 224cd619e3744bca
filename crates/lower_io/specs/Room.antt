-- Bytes in reserved room.
use Rattle.std.specs.Prelude.{◌≡◌, ◌↔◌, ℕ, ◌+◌, ◌≤◌, if◌then◌else◌, IsTrue, List, [], ◌++◌, length, None, Some}
use Rattle.std.specs.declared.option.Option.{Option}
use Rattle.lower_io.specs.declared.room.Room.{Room}

-- the bytes that are held
abbrev pub room_bytes : Room → List ℕ
room_bytes room = room.bytes.items

-- how many there is room for
abbrev pub room_size : Room → ℕ
room_size room = room.size

-- what is told of the bytes: all of them, or nothing once some did not fit
abbrev pub told_bytes : Room → Option (List ℕ)
told_bytes room = if room.whole then Some room.bytes.items else None

-- room for so many bytes, which holds none
pub record IsEmptyRoom (room : Room) (most : ℕ) : Type 0 where
  pub told : told_bytes room ≡ Some []
  pub bytes : room_bytes room ≡ []
  pub size : room_size room ≡ most

-- A piece was added, if it fitted and no earlier one was lost. Else it is lost, and nothing more is told.
pub record Adds (old new : Room) (piece : List ℕ) : Type 0 where
  pub whole : IsTrue new.whole ↔ (IsTrue old.whole × (length (room_bytes old) + length piece ≤ room_size old))
  pub bytes : room_bytes new ≡ (if new.whole then room_bytes old ++ piece else room_bytes old)
  pub size : room_size new ≡ room_size old
