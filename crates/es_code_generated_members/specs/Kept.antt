-- A value that gets the name of its key.
use Rattle.std.specs.Prelude.{Option, Some, None}
use Rattle.es_steps.specs.Code.{Code, done, and, no_rule, sequence, from_call, from_member}

-- the key and the value in order, of which the value is used
abbrev pub named_value : Code × Code → Code
named_value p = from_member (from_call (sequence (and p.0 (and p.1 done))))

-- no rule without a property
abbrev pub kept_value : Option (Code × Code) → Code
kept_value (Some p) = named_value p
kept_value None = no_rule
