-- Operands that are names.
use Rattle.std.specs.Prelude.{Bool, true, false}
use Rattle.es_steps.specs.Context.{NameKind, Changing}
use Rattle.es_steps.specs.Values.{Referent, Free, Value, ArgumentsOf}

abbrev pub is_free_referent : Referent → Bool
is_free_referent (Free s) = true
is_free_referent r = false

abbrev pub is_free_kind : NameKind → Bool
is_free_kind (Changing r) = is_free_referent r
is_free_kind kind = false

abbrev pub is_arguments_value : Value → Bool
is_arguments_value (ArgumentsOf k) = true
is_arguments_value v = false
