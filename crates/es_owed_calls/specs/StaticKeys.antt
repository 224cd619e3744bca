-- Keys of static elements in code, as definitions see them.
use Rattle.std.specs.Prelude.{List, map}
use Rattle.std.specs.Str.{chars}
use Rattle.es_lowered.specs.HelperCalls as spec
use Rattle.es_owed_calls.specs.declared.static_key.StaticKey.{StaticKey}

abbrev pub key_view : StaticKey → spec.StaticKey
key_view StaticKey.Name = spec.is_name
key_view (StaticKey.KeptBy name) = spec.is_kept_by (chars name.now)

abbrev pub key_views : List StaticKey → List spec.StaticKey
key_views ks = map key_view ks
