use Rattle.es_scopes.proofs.NumberShown.{ids-built, targets-built}
use Rattle.es_scopes.proofs.law.built_tables_have_their_numbers_on_the_nodes.Goals as goal

pub returns-clause-ids : goal.returns-clause-ids
returns-clause-ids c = ids-built

pub returns-clause-targets : goal.returns-clause-targets
returns-clause-targets c = targets-built
