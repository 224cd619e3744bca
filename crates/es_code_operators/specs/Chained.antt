-- A new `delete` at the end of a chain.
use Rattle.std.specs.Prelude.{ℕ, cond}
use Rattle.es_steps.specs.Code.{Code, Codes, operation, no_rule}
use Rattle.es_steps.specs.Context.{Context, new_here}
use Rattle.es_steps.specs.Events.{Operation, Delete}

abbrev pub deleted_operation : Context → ℕ → ℕ → Operation → Codes → Codes → Code
deleted_operation c m k Delete es held = cond (new_here c k) (operation m Delete es held) no_rule
deleted_operation c m k op es held = no_rule
