-- What the details of a literal say, one by one.
use Rattle.std.specs.Prelude.{List, [], ◌∷◌, Bool, true, false, cond, ◌&&◌, bytes_eq, codes, Option, Some, None}
use Rattle.es_steps.specs.Events.{Detail, Operand, Spelled, Flag, Key, Opens, Closes}
use Rattle.es_steps.specs.GeneratedForms.{is_plain_property}
use Rattle.es_steps.specs.Values.{String, Constant, StringOf}

abbrev pub is_operand : Detail → Bool
is_operand Operand = true
is_operand d = false

abbrev pub is_opening : Detail → Bool
is_opening Opens = true
is_opening d = false

abbrev pub is_closing : Detail → Bool
is_closing Closes = true
is_closing d = false

-- the kind of a property, and whether it is a method
abbrev pub is_plain : Detail → Detail → Bool
is_plain (Spelled kind) (Flag is_method) = is_plain_property kind is_method
is_plain d e = false

abbrev pub is_string : String → Constant → Bool
is_string s (StringOf t) = bytes_eq t s
is_string s k = false

abbrev pub is_key : String → Detail → Bool
is_key s (Key k) = is_string s k
is_key s d = false

-- a property `s: v`, by its details
abbrev pub is_property : String → Detail → Detail → Detail → Detail → Bool
is_property s (Key (StringOf t)) Operand (Spelled kind) (Flag is_method) = bytes_eq t s && is_plain_property kind is_method
is_property s key v kind is_method = false

-- what stands behind the key of a property that is alone
abbrev pub is_plain_end : List Detail → Bool
is_plain_end (Operand ∷ Spelled kind ∷ Flag is_method ∷ Closes ∷ []) = is_plain_property kind is_method
is_plain_end ds = false

-- behind a property `s: v`
abbrev pub behind_property : String → List Detail → Option (List Detail)
behind_property s (key ∷ v ∷ kind ∷ is_method ∷ ds) = cond (is_property s key v kind is_method) (Some ds) None
behind_property s ds = None

-- behind `writable: a` in `{ writable: a, value: v }`
abbrev pub is_value_end : List Detail → Bool
is_value_end (Key (StringOf s) ∷ Operand ∷ Spelled kind ∷ Flag is_method ∷ Closes ∷ []) = bytes_eq s (codes "value") && is_plain_property kind is_method
is_value_end ds = false

-- behind the opening of `{ writable: a, value: v }`
abbrev pub are_writable : List Detail → Bool
are_writable (Key (StringOf k1) ∷ Operand ∷ Spelled kind1 ∷ Flag method1 ∷ Key (StringOf k2) ∷ Operand ∷ Spelled kind2 ∷ Flag method2 ∷ Closes ∷ []) = (bytes_eq k1 (codes "writable") && is_plain_property kind1 method1) && (bytes_eq k2 (codes "value") && is_plain_property kind2 method2)
are_writable ds = false

abbrev pub is_writable : List Detail → Bool
is_writable (d ∷ ds) = is_opening d && are_writable ds
is_writable [] = false

abbrev pub is_end : List Detail → Bool
is_end (d ∷ []) = is_closing d
is_end ds = false
