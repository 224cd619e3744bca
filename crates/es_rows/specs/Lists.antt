-- Meanings that are written out.
use Rattle.std.specs.Prelude.{ℕ, List, [], ◌∷◌, Option, Some, None, codes}
use Rattle.es_base.specs.declared.kind.Kind.{Kind}
use Rattle.es_steps.specs.Entries.{Entry, ClassEntry, Parameter, Identifier, plain_form}
use Rattle.es_steps.specs.Events.{Events, InitializeClass, none, then, Operation, OfKind, Spelled, Operand}
use Rattle.es_steps.specs.Meaning.{Meaning, DeclarationKind, ParameterName}
use Rattle.es_steps.specs.Values.{String, Value, ConstantOf, StringOf, NumberOf, Undefined}

-- a script with this list, these entries, bindings and names for other scripts, and these places
abbrev pub script_with : Events → List (ℕ × Entry) → List (ℕ × DeclarationKind) → List (ℕ × String) → List (ℕ × ℕ) → Option Meaning
script_with l entries bindings globals places = Some (record {
  source_type = codes "script";
  program = record { events = l; value = Undefined };
  entries = entries;
  members = [];
  functions = [];
  bindings = bindings;
  globals = globals;
  shared = [];
  places = places;
  branches = [];
  links = [];
  exports = [];
})

-- a script of the one class C, number 1, with this construction, and these parameters of its constructor; in the program
-- stand the class, its name, and these
abbrev pub class_with : List Parameter → Events → List (ℕ × DeclarationKind) → List (ℕ × ℕ) → Option Meaning
class_with parameters l bindings places = script_with (then (InitializeClass 1) none) ((1, ClassEntry (Some 2) None [] plain_form parameters (record { events = l; value = Undefined })) ∷ []) bindings ((2, codes "C") ∷ []) ((1, 0) ∷ (2, 0) ∷ places)

abbrev pub script_of_class : Events → Option Meaning
script_of_class l = class_with [] l [] []

-- with the parameter 10 of the constructor 9
abbrev pub script_with_parameter : Events → Option Meaning
script_with_parameter l = class_with (Identifier 10 ∷ []) l ((10, ParameterName) ∷ []) ((9, 0) ∷ (10, 1) ∷ [])

-- a script of statements with this list
abbrev pub script_of : Events → Option Meaning
script_of l = script_with l [] [] [] []

abbrev pub x : Value
x = ConstantOf (StringOf (codes "x"))

abbrev pub y : Value
y = ConstantOf (StringOf (codes "y"))

abbrev pub z : Value
z = ConstantOf (StringOf (codes "z"))

abbrev pub number : String → Value
number raw = ConstantOf (NumberOf raw)

abbrev pub sum : Operation
sum = OfKind Kind.BinaryExpression (Spelled (codes "+") ∷ Operand ∷ Operand ∷ [])

abbrev pub gives : Operation
gives = OfKind Kind.AssignmentExpression []
