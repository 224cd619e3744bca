-- Exports in code, as definitions see them, and where the value of the default export is known.
use Rattle.std.specs.Prelude.{ℕ, List, [], ◌∷◌, ◌++◌, map, Bool, false, cond, ◌&&◌, bytes_eq, codes, Option, Some, None, option_map}
use Rattle.std.specs.Str.{chars}
use Rattle.es_base.specs.Tree.{Tree, Part, Parts, Node, end, more, child}
use Rattle.es_base.specs.declared.kind.Kind.{Kind}
use Rattle.es_steps.specs.Context.{Context, name_kind}
use Rattle.es_steps.specs.Modules as spec
use Rattle.es_steps.specs.Modules.{exported_as, exported_value, is_named_declaration, local_exports, module_name}
use Rattle.es_steps.specs.Parts.{at}
use Rattle.es_steps.specs.SameMeanings.{same_exported}
use Rattle.es_steps.specs.Values.{Value, ClassOf}
use Rattle.es_exports.specs.declared.export.Export.{Export}
use Rattle.es_exports.specs.declared.export.Exported.{Exported}

abbrev pub exported_in : Exported → spec.Exported
exported_in (Exported.Class n) = spec.ExportedClass n
exported_in (Exported.Binding b) = spec.ExportedBinding b
exported_in (Exported.Free s) = spec.ExportedFree s
exported_in (Exported.Value v) = spec.ExportedValue v

abbrev pub meaning_in : Option Exported → Option spec.Exported
meaning_in x = option_map exported_in x

abbrev pub export_in : Export → spec.Export
export_in x = record { name = chars x.name.now; means = meaning_in x.means }

abbrev pub exports_of : List Export → List spec.Export
exports_of xs = map export_in xs

-- the class that a value is
abbrev pub class_in : Value → Option ℕ
class_in (ClassOf n) = Some n
class_in v = None

-- ---- comparison: what means nothing is not the same

abbrev pub same_meaning : Option spec.Exported → Option spec.Exported → Bool
same_meaning (Some x) (Some y) = same_exported x y
same_meaning x y = false

abbrev pub same_meant : spec.Export → spec.Export → Bool
same_meant x y = bytes_eq x.name y.name && same_meaning x.means y.means

-- ---- exports where the value of the default export is this one, if any

abbrev pub default_means : Context → Option Value → Tree → Option spec.Exported
default_means c o (Node kind m span semantic_id ps) = cond (is_named_declaration kind (at 0 ps)) (exported_as (name_kind c (module_name (at 0 ps)))) (exported_value o)

abbrev pub default_by : Context → Option Value → Part → List spec.Export
default_by c o (child t) = record { name = codes "default"; means = default_means c o t } ∷ []
default_by c o p = record { name = codes "default"; means = None } ∷ []

abbrev pub export_of : Context → Option Value → Part → List spec.Export
export_of c o (child (Node Kind.ExportNamedDeclaration m span semantic_id ps)) = local_exports c (at 0 ps) (at 1 ps) (at 2 ps)
export_of c o (child (Node Kind.ExportDefaultDeclaration m span semantic_id ps)) = default_by c o (at 0 ps)
export_of c o p = []

abbrev pub exports_by : Context → Option Value → Parts → List spec.Export
exports_by c o end = []
exports_by c o (more p ps) = export_of c o p ++ exports_by c o ps
