use Rattle.std.proofs.Common.{◌≡◌, ◌++◌, drop}
use Rattle.es_binding_faults.specs.Seen.{seen}
use Rattle.es_owed_lets.specs.Exported.{running_nodes_up_to}
use Rattle.es_owed_lets.proofs.default_export.running_nodes_up_to.Given as goal

abbrev pub invariant-loop-statement : goal.invariant-loop-statement
invariant-loop-statement l = seen l.nodes.items ++ running_nodes_up_to (seen (drop l.statement-index l.statements)) ≡ running_nodes_up_to (seen l.statements)
