-- The class whose brand a generated name is.
use Rattle.std.specs.Prelude.{ℕ, Option, Some, None}
use Rattle.es_base.specs.declared.ledger.GeneratedKind.{GeneratedKind}
use Rattle.es_steps.specs.Code.{Code, name}
use Rattle.es_steps.specs.Context.{NameKind, Generated}

abbrev pub brand_class_of : NameKind → Option ℕ
brand_class_of (Generated (GeneratedKind.Brand n)) = Some n.0
brand_class_of kind = None

abbrev pub brand_class : Code → Option ℕ
brand_class (name m s kind) = brand_class_of kind
brand_class e = None
