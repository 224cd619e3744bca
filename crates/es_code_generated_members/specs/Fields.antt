-- Generated names of the objects of static fields.
use Rattle.std.specs.Prelude.{Bool, true, false}
use Rattle.es_base.specs.declared.ledger.GeneratedKind.{GeneratedKind}
use Rattle.es_steps.specs.Code.{Code, name}
use Rattle.es_steps.specs.Context.{NameKind, Generated}

abbrev pub is_static_field_kind : NameKind → Bool
is_static_field_kind (Generated (GeneratedKind.StaticField d)) = true
is_static_field_kind kind = false

abbrev pub names_static_field : Code → Bool
names_static_field (name m s kind) = is_static_field_kind kind
names_static_field e = false
