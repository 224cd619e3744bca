-- Keys of generated forms, by what they are.
use Rattle.std.specs.Prelude.{Bool, false, bytes_eq, Option, Some, None}
use Rattle.es_steps.specs.Code.{Code, value, name, private_value}
use Rattle.es_steps.specs.Context.{NameKind, Generated}
use Rattle.es_steps.specs.Values.{String, Constant, StringOf, Value, ConstantOf}

abbrev pub string_in_constant : Constant → Option String
string_in_constant (StringOf s) = Some s
string_in_constant k = None

abbrev pub string_in_value : Value → Option String
string_in_value (ConstantOf k) = string_in_constant k
string_in_value v = None

-- the string that a code is
abbrev pub string_in : Code → Option String
string_in (value v) = string_in_value v
string_in e = None

abbrev pub if_generated : String → NameKind → Option String
if_generated s (Generated g) = Some s
if_generated s kind = None

-- the spelling of a generated name
abbrev pub generated_in : Code → Option String
generated_in (name m s kind) = if_generated s kind
generated_in e = None

-- the spelling of a generated private element whose value a code is
abbrev pub private_in : Code → Option String
private_in (private_value s) = Some s
private_in e = None

abbrev pub is_same : Option String → Option String → Bool
is_same (Some s) (Some t) = bytes_eq s t
is_same s t = false
