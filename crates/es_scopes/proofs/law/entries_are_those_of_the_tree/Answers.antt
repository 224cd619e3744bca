use Rattle.es_scopes.proofs.BindingOrder.{bindings-entries}
use Rattle.es_scopes.proofs.OrderLemmas.{entries-ordered}
use Rattle.es_scopes.proofs.ReferenceOrder.{references-entries}
use Rattle.es_scopes.proofs.law.entries_are_those_of_the_tree.Goals as goal

pub returns-clause-bindings : goal.returns-clause-bindings
returns-clause-bindings c = bindings-entries

pub returns-clause-references : goal.returns-clause-references
returns-clause-references c = references-entries

pub returns-clause-order : goal.returns-clause-order
returns-clause-order c = entries-ordered
