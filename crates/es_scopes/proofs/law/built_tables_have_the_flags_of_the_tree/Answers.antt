use Rattle.es_scopes.proofs.TableShown.{scopes-built, references-built}
use Rattle.es_scopes.proofs.law.built_tables_have_the_flags_of_the_tree.Goals as goal

pub returns-clause-scopes : goal.returns-clause-scopes
returns-clause-scopes c = scopes-built

pub returns-clause-references : goal.returns-clause-references
returns-clause-references c = references-built
