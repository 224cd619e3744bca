use Rattle.std.proofs.Common.{◌≡◌, ◌++◌, drop}
use Rattle.es_binding_faults.specs.Seen.{seen}
use Rattle.es_owed_lets.specs.Exported.{nodes_up_to}
use Rattle.es_owed_lets.proofs.default_export.nodes_up_to.Given as goal

abbrev pub invariant-loop-statement : goal.invariant-loop-statement
invariant-loop-statement l = seen l.nodes.items ++ nodes_up_to (seen (drop l.statement-index l.statements)) ≡ nodes_up_to (seen l.statements)
