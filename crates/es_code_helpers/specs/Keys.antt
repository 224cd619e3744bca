-- Keys that are private elements.
use Rattle.std.specs.Prelude.{Bool, true, false}
use Rattle.es_steps.specs.Code.{Code, private_value}

abbrev pub is_private_value : Code → Bool
is_private_value (private_value s) = true
is_private_value e = false
