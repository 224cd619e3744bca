use Rattle.std.proofs.Common.{◌≡◌, ◌++◌, drop}
use Rattle.es_by_number.specs.Numbered.{pairs}
use Rattle.es_owed_definitions.specs.SuperNames.{super_pairs}
use Rattle.es_owed_definitions.proofs.super_names.with_classes.Given as goal

abbrev pub invariant-loop-node : goal.invariant-loop-node
invariant-loop-node l = pairs l.items.items ++ super_pairs l.ledger (drop l.node-index l.nodes) ≡ super_pairs l.ledger l.nodes
