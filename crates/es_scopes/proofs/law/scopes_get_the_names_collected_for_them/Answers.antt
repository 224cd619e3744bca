use Rattle.std.proofs.Common.{refl}
use Rattle.es_scopes.proofs.HeldNames.{own-tree, program-names, statement-names}
use Rattle.es_scopes.proofs.EachScope.{each-program, count-program}
use Rattle.es_scopes.proofs.HeldTable.{names-built}
use Rattle.es_scopes.proofs.law.scopes_get_the_names_collected_for_them.Goals as goal

pub returns-clause-own : goal.returns-clause-own
returns-clause-own c = λ w place s before kind m span id ps h has is_open quiet none. own-tree w before.next place s before kind m span id ps h has is_open refl quiet none

pub returns-clause-program : goal.returns-clause-program
returns-clause-program c = program-names

pub returns-clause-statement : goal.returns-clause-statement
returns-clause-statement c = statement-names

pub returns-clause-each : goal.returns-clause-each
returns-clause-each c = each-program

pub returns-clause-count : goal.returns-clause-count
returns-clause-count c = count-program

pub returns-clause-built : goal.returns-clause-built
returns-clause-built c = names-built
