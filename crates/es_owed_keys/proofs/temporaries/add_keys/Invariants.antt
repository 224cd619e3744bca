use Rattle.std.proofs.Common.{◌≡◌, ◌++◌, drop}
use Rattle.es_lowered.specs.Definitions as spec
use Rattle.es_owed_definitions.specs.Views.{definition_views}
use Rattle.es_owed_initialized.specs.Keys.{keys_of}
use Rattle.es_owed_keys.proofs.temporaries.add_keys.Given as goal

abbrev pub invariant-loop-definition : goal.invariant-loop-definition
invariant-loop-definition l = keys_of l.found.items ++ spec.with_class l.class (spec.key_temporaries l.ledger (definition_views (drop l.definition-index l.definitions))) ≡ keys_of l.fn.found.items ++ spec.with_class l.class (spec.key_temporaries l.ledger (definition_views l.definitions))
