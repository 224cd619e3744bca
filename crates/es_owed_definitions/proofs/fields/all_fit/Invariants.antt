use Rattle.std.proofs.Common.{◌≡◌, drop, length}
use Rattle.es_lowered.specs.Definitions.{all_fit}
use Rattle.es_owed_definitions.specs.Fields.{element_views}
use Rattle.es_owed_definitions.specs.Keys.{names_view}
use Rattle.es_owed_definitions.specs.Views.{definition_views}
use Rattle.es_owed_definitions.proofs.fields.all_fit.Given as goal

abbrev pub invariant-loop-i : goal.invariant-loop-i
invariant-loop-i l = (length l.definitions ≡ length l.fields) × (all_fit (names_view l.names) l.names.class (element_views (drop l.i l.fields)) (definition_views (drop l.i l.definitions)) ≡ all_fit (names_view l.names) l.names.class (element_views l.fields) (definition_views l.definitions))
