use Rattle.es_scopes.proofs.TableSteps.{Declares}
use Rattle.es_scopes.proofs.declare.declare_all.Given as goal

abbrev pub invariant-loop-entry : goal.invariant-loop-entry
invariant-loop-entry l = Declares l.entries l.entry-index l.declarations
