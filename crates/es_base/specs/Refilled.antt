-- What a list becomes by a write through a slice of all its items.
use Rattle.std.specs.Prelude.{List, ◌++◌, length, take, drop}

-- items with the slice's ws in their place: ws itself, since a slice keeps its length
abbrev pub refilled : {X : Type 0} → List X → List X → List X
refilled items ws = take (length items) (ws ++ drop (length ws) items)
