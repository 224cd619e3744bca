use Rattle.std.proofs.Common.{◌≡◌, ◌++◌, drop}
use Rattle.es_lowered.specs.Definitions.{on_this}
use Rattle.es_owed_definitions.specs.Views.{definition_views}
use Rattle.es_owed_definitions.proofs.found.on_this.Given as goal

abbrev pub invariant-loop-definition : goal.invariant-loop-definition
invariant-loop-definition l = definition_views l.found.items ++ on_this l.first (definition_views (drop l.definition-index l.definitions)) ≡ on_this l.first (definition_views l.definitions)
