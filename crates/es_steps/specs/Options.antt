-- What the options ask, as definitions read them.
use Rattle.std.specs.Prelude.{Bool, true, false, ◌||◌, ◌&&◌, Option, Some, None, is_some}
use Rattle.es_steps.specs.declared.options.ClassPropertiesOptions.{ClassPropertiesOptions}
use Rattle.es_steps.specs.declared.options.CompilerAssumptions.{CompilerAssumptions}
use Rattle.es_steps.specs.declared.options.Options.{Options}

-- class fields and private members are lowered
abbrev pub is_loose : Option ClassPropertiesOptions → Bool
is_loose None = false
is_loose (Some p) = p.loose

abbrev pub lowers_fields : Options → Bool
lowers_fields o = is_some o.es2022.class_properties

-- static blocks are lowered
abbrev pub lowers_blocks : Options → Bool
lowers_blocks o = o.es2022.class_static_block

-- public fields are set and not defined
abbrev pub sets_fields : Options → Bool
sets_fields o = lowers_fields o && (is_loose o.es2022.class_properties || o.assumptions.set_public_class_fields)

-- private members are kept as properties
abbrev pub keeps_privates_as_properties : Options → Bool
keeps_privates_as_properties o = lowers_fields o && (is_loose o.es2022.class_properties || o.assumptions.private_fields_as_properties)

-- a field without initializer is left out
abbrev pub leaves_out_fields : Options → Bool
leaves_out_fields o = sets_fields o && o.remove_class_fields_without_initializer

-- ---- options that rows are computed under

abbrev pub no_assumptions : CompilerAssumptions
no_assumptions = record {
  array_like_is_iterable = false;
  constant_reexports = false;
  constant_super = false;
  enumerable_module_meta = false;
  ignore_function_length = false;
  ignore_to_primitive_hint = false;
  iterable_is_array = false;
  mutable_template_object = false;
  no_class_calls = false;
  no_document_all = false;
  no_incomplete_ns_import_detection = false;
  no_new_arrows = false;
  no_uninitialized_private_field_access = false;
  object_rest_no_symbols = false;
  private_fields_as_symbols = false;
  private_fields_as_properties = false;
  pure_getters = false;
  set_class_methods = false;
  set_computed_properties = false;
  set_public_class_fields = false;
  set_spread_properties = false;
  skip_for_of_iterator_closing = false;
  super_is_callable_constructor = false;
}

abbrev pub options_of : Bool → Option ClassPropertiesOptions → Bool → Options
options_of blocks fields remove = record {
  es2022 = record { class_static_block = blocks; class_properties = fields; top_level_await = false };
  assumptions = no_assumptions;
  remove_class_fields_without_initializer = remove;
}

abbrev pub no_options : Options
no_options = options_of false None false

abbrev pub class_properties_alone : Options
class_properties_alone = options_of false (Some (record { loose = false })) false

abbrev pub class_properties_loose : Options
class_properties_loose = options_of false (Some (record { loose = true })) false

abbrev pub static_blocks_alone : Options
static_blocks_alone = options_of true None false

abbrev pub both_lowered : Options
both_lowered = options_of true (Some (record { loose = false })) false
