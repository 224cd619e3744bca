-- New object literals and arrays, part by part.
use Rattle.std.specs.Prelude.{List, [], ◌∷◌, Bool, true, false, cond, ◌&&◌, Option, Some, None}
use Rattle.es_base.specs.declared.kind.Kind.{Kind}
use Rattle.es_steps.specs.Code.{Code, Codes, value, operation, key_of, done, and}
use Rattle.es_steps.specs.Context.{Context, new_here}
use Rattle.es_steps.specs.Events.{Detail, Operation, OfKind, Operand, Key}
use Rattle.es_steps.specs.GeneratedForms.{is_same_key, only_operands}
use Rattle.es_steps.specs.Values.{Constant, ConstantOf, BooleanOf}
use Rattle.es_code_new_literals.specs.Details.{is_opening, is_plain_end, is_writable}

-- ---- new operations all of whose parts are operands

abbrev pub no_codes : Codes → Bool
no_codes done = true
no_codes (and c cs) = false

-- the operation and its operands
abbrev pub new_operation : Context → Code → Option (Operation × Codes)
new_operation c (operation m op es held) = cond (new_here c m && no_codes held) (Some (op, es)) None
new_operation c e = None

-- ---- an object literal of one property

-- `{ k: v }`
abbrev pub constant_property : Constant → Codes → Option (Code × Code)
constant_property k (and v done) = Some (value (ConstantOf k), v)
constant_property k es = None

abbrev pub inner_key : Code → Option Code
inner_key (key_of k) = Some k
inner_key e = None

-- `{ [k]: v }`
abbrev pub computed_property : Codes → Option (Code × Code)
computed_property (and (key_of k) (and v done)) = Some (k, v)
computed_property es = None

-- by what stands where the key does
abbrev pub keyed_property : Detail → Codes → Option (Code × Code)
keyed_property (Key k) es = constant_property k es
keyed_property Operand es = computed_property es
keyed_property d es = None

abbrev pub property_among : List Detail → Codes → Option (Code × Code)
property_among (opens ∷ key ∷ ds) es = cond (is_opening opens && is_plain_end ds) (keyed_property key es) None
property_among ds es = None

abbrev pub is_object : Kind → Bool
is_object Kind.ObjectExpression = true
is_object kind = false

abbrev pub property_in : Operation × Codes → Option (Code × Code)
property_in (OfKind kind ds, es) = cond (is_object kind) (property_among ds es) None
property_in (op, es) = None

-- whether the key of a property is this
abbrev pub is_keyed_by : Code → Option (Code × Code) → Bool
is_keyed_by key (Some p) = is_same_key key p.0
is_keyed_by key None = false

abbrev pub is_inner_key : Code → Option Code → Bool
is_inner_key key (Some k) = is_same_key key k
is_inner_key key None = false

-- ---- `{ writable: true, value: v }`

abbrev pub is_true : Code → Bool
is_true (value (ConstantOf (BooleanOf true))) = true
is_true e = false

abbrev pub behind_true : Codes → Option Code
behind_true (and a (and v done)) = cond (is_true a) (Some v) None
behind_true es = None

abbrev pub writable_in : Operation × Codes → Option Code
writable_in (OfKind kind ds, es) = cond (is_object kind && is_writable ds) (behind_true es) None
writable_in (op, es) = None

-- ---- the elements of an array

abbrev pub is_array : Kind → Bool
is_array Kind.ArrayExpression = true
is_array kind = false

abbrev pub are_elements : List Detail → Bool
are_elements (opens ∷ ds) = is_opening opens && only_operands ds
are_elements [] = false

abbrev pub elements_in : Operation × Codes → Option Codes
elements_in (OfKind kind ds, es) = cond (is_array kind && are_elements ds) (Some es) None
elements_in (op, es) = None
