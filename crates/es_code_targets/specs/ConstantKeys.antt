-- Keys that are not computed, by the constants that they are.
use Rattle.std.specs.Prelude.{List, [], ◌∷◌, Bool, true, false, cond, ◌&&◌, bytes_eq, codes, Option, Some, None}
use Rattle.es_steps.specs.Code.{Code, Codes, spelled, value, done, one}
use Rattle.es_steps.specs.Events.{Detail, Operand, Key, Prototype}
use Rattle.es_steps.specs.Values.{Constant, StringOf, Value, ConstantOf}

abbrev pub constant_in : Value → Option Constant
constant_in (ConstantOf k) = Some k
constant_in v = None

-- the constant that a key is
abbrev pub constant_key : Code → Option Constant
constant_key (spelled s) = Some (StringOf s)
constant_key (value v) = constant_in v
constant_key c = None

-- what a constant says as key, where `__proto__` sets the prototype or does not
abbrev pub detail_of_key : Bool → Constant → Detail
detail_of_key sets_prototype (StringOf s) = cond (bytes_eq s (codes "__proto__") && sets_prototype) Prototype (Key (StringOf s))
detail_of_key sets_prototype k = Key k

abbrev pub details_by : Bool → Option Constant → List Detail
details_by sets_prototype (Some k) = detail_of_key sets_prototype k ∷ []
details_by sets_prototype None = []

abbrev pub details_where : Bool → Code → List Detail
details_where sets_prototype c = details_by sets_prototype (constant_key c)

-- what a key adds to the details, computed or not, and to the operands
abbrev pub said_by_key : Bool → Bool → Code → List Detail
said_by_key true sets_prototype k = Operand ∷ []
said_by_key false sets_prototype k = details_where sets_prototype k

abbrev pub key_operands : Bool → Code → Codes
key_operands true k = one k
key_operands false k = done
