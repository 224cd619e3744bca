-- Options under which fields are defined, with what they say of it written out.
use Rattle.std.proofs.Common.{◌≡◌, refl, sym, Bool, true, false, Option, Some, None, true≢false}
use Rattle.std.specs.Prelude.{not, ◌||◌, ◌&&◌, is_some}
use Rattle.es_steps.specs.Options.{is_loose}
use Rattle.es_steps.specs.declared.options.ClassPropertiesOptions.{ClassPropertiesOptions}
use Rattle.es_steps.specs.declared.options.Options.{Options}
use Rattle.class_properties.specs.Options.{defines_fields}

abbrev with_fields : Options → Option ClassPropertiesOptions → Bool → Options
with_fields o fields set = record {
  es2022 = record {
    class_static_block = o.es2022.class_static_block;
    class_properties = fields;
    top_level_await = o.es2022.top_level_await;
  };
  assumptions = record o.assumptions { set_public_class_fields = set };
  remove_class_fields_without_initializer = o.remove_class_fields_without_initializer;
}

-- the same options, by which fields are defined
abbrev pub defining : Options → Options
defining o = with_fields o (Some (record { loose = false })) false

neither-set : (o : Options) (loose set : Bool) → not (loose || set) ≡ true → with_fields o (Some (record { loose = false })) false ≡ with_fields o (Some (record { loose = loose })) set
neither-set o false false h = refl
neither-set o false true h = absurd (true≢false (sym h))
neither-set o true set h = absurd (true≢false (sym h))

given : (o : Options) (fields : Option ClassPropertiesOptions) (set : Bool) → (is_some fields && not (is_some fields && (is_loose fields || set))) ≡ true → defining o ≡ with_fields o fields set
given o None set h = absurd (true≢false (sym h))
given o (Some fields) set h = neither-set o fields.loose set h

pub is_defining : (o : Options) → defines_fields o ≡ true → defining o ≡ o
is_defining o h = given o o.es2022.class_properties o.assumptions.set_public_class_fields h
