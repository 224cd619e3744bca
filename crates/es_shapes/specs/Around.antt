-- What is around a node, as code holds it.
use Rattle.std.specs.Prelude.{ℕ, List, [], ◌∷◌, Bool, ◌||◌}
use Rattle.es_base.specs.declared.kind.Kind.{Kind}
use Rattle.es_steps.specs.Quiet.{Around, gives_arguments, is_block}
use Rattle.es_shapes.specs.declared.around.ClassNames as names
use Rattle.es_shapes.specs.declared.around.ClassNames.{ClassNames}
use Rattle.es_shapes.specs.declared.around.Standing.{Standing}

-- the identifiers of the classes, the nearest first
abbrev pub ids_in : ClassNames → List ℕ
ids_in names.None = []
ids_in (names.Class' id at outer) = id.0 ∷ ids_in outer

abbrev pub around : List ℕ → Standing → Around
around ids s = record { class_names = ids; has_arguments = s.has_arguments; in_block = s.in_block }

-- around the i-th part of a node, where these are the classes
abbrev pub around_in : List ℕ → Bool → Kind → ℕ → Around
around_in ids has_arguments kind i = record { class_names = ids; has_arguments = gives_arguments kind i || has_arguments; in_block = is_block kind }
