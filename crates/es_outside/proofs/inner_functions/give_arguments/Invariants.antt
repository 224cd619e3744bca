use Rattle.std.specs.Prelude.{codes}
use Rattle.std.proofs.Common.{◌≡◌, drop}
use Rattle.es_binding_faults.specs.Seen.{seen}
use Rattle.es_outside.specs.InnerFunctions.{give_name}
use Rattle.es_outside.proofs.inner_functions.give_arguments.Given as goal

abbrev pub invariant-loop-node : goal.invariant-loop-node
invariant-loop-node l = give_name (codes "arguments") (seen (drop l.node-index l.nodes)) ≡ give_name (codes "arguments") (seen l.nodes)
