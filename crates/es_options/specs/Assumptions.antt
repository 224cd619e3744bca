-- The assumptions that a JSON value holds (Babel's top-level `assumptions`, as oxc reads them): an object of booleans, by
-- names in camel case.
use Rattle.std.specs.Prelude.{ℕ, List, [], ◌∷◌, Bool, true, false, ◌&&◌, Option, Some, None, option_and_then, Result, Ok, Err, if◌then◌else◌, is_some, codes}
use Rattle.serde_json.specs.Data.{Data, object, Members, no_members, member}
use Rattle.serde_json.specs.Find.{get, as_bool}
use Rattle.es_base.specs.Conforms.{is_among}
use Rattle.es_options.specs.declared.assumptions.BadAssumptions.{BadAssumptions}
use Rattle.es_steps.specs.declared.options.CompilerAssumptions.{CompilerAssumptions}

abbrev pub assumption_keys : List (List ℕ)
assumption_keys =
    codes "arrayLikeIsIterable" ∷
    codes "constantReexports" ∷
    codes "constantSuper" ∷
    codes "enumerableModuleMeta" ∷
    codes "ignoreFunctionLength" ∷
    codes "ignoreToPrimitiveHint" ∷
    codes "iterableIsArray" ∷
    codes "mutableTemplateObject" ∷
    codes "noClassCalls" ∷
    codes "noDocumentAll" ∷
    codes "noIncompleteNsImportDetection" ∷
    codes "noNewArrows" ∷
    codes "noUninitializedPrivateFieldAccess" ∷
    codes "objectRestNoSymbols" ∷
    codes "privateFieldsAsSymbols" ∷
    codes "privateFieldsAsProperties" ∷
    codes "pureGetters" ∷
    codes "setClassMethods" ∷
    codes "setComputedProperties" ∷
    codes "setPublicClassFields" ∷
    codes "setSpreadProperties" ∷
    codes "skipForOfIteratorClosing" ∷
    codes "superIsCallableConstructor" ∷
    []

abbrev pub is_true : Option Bool → Bool
is_true None = false
is_true (Some b) = b

-- the boolean at a key; false where there is none
abbrev pub flag : List ℕ → Data → Bool
flag key d = is_true (option_and_then as_bool (get key d))

-- each key is one of an assumption, and its value a boolean
abbrev pub are_assumptions : Members → Bool
are_assumptions no_members = true
are_assumptions (member key d ms) = (is_among key assumption_keys && is_some (as_bool d)) && are_assumptions ms

abbrev pub holds_assumptions : Data → Bool
holds_assumptions (object ms) = are_assumptions ms
holds_assumptions d = false

abbrev pub assumptions_in : Data → CompilerAssumptions
assumptions_in d = record {
  array_like_is_iterable = flag (codes "arrayLikeIsIterable") d;
  constant_reexports = flag (codes "constantReexports") d;
  constant_super = flag (codes "constantSuper") d;
  enumerable_module_meta = flag (codes "enumerableModuleMeta") d;
  ignore_function_length = flag (codes "ignoreFunctionLength") d;
  ignore_to_primitive_hint = flag (codes "ignoreToPrimitiveHint") d;
  iterable_is_array = flag (codes "iterableIsArray") d;
  mutable_template_object = flag (codes "mutableTemplateObject") d;
  no_class_calls = flag (codes "noClassCalls") d;
  no_document_all = flag (codes "noDocumentAll") d;
  no_incomplete_ns_import_detection = flag (codes "noIncompleteNsImportDetection") d;
  no_new_arrows = flag (codes "noNewArrows") d;
  no_uninitialized_private_field_access = flag (codes "noUninitializedPrivateFieldAccess") d;
  object_rest_no_symbols = flag (codes "objectRestNoSymbols") d;
  private_fields_as_symbols = flag (codes "privateFieldsAsSymbols") d;
  private_fields_as_properties = flag (codes "privateFieldsAsProperties") d;
  pure_getters = flag (codes "pureGetters") d;
  set_class_methods = flag (codes "setClassMethods") d;
  set_computed_properties = flag (codes "setComputedProperties") d;
  set_public_class_fields = flag (codes "setPublicClassFields") d;
  set_spread_properties = flag (codes "setSpreadProperties") d;
  skip_for_of_iterator_closing = flag (codes "skipForOfIteratorClosing") d;
  super_is_callable_constructor = flag (codes "superIsCallableConstructor") d;
}

abbrev pub from_value : Data → Result CompilerAssumptions BadAssumptions
from_value d = if holds_assumptions d then Ok (assumptions_in d) else Err (record {})
