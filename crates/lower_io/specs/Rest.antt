-- Bytes of which some may have been taken.
use Rattle.std.specs.Prelude.{ℕ, List, drop}
use Rattle.lower_io.specs.declared.rest.Rest.{Rest}

-- those that are left
abbrev pub rest_bytes : Rest → List ℕ
rest_bytes rest = drop rest.at rest.bytes.items
