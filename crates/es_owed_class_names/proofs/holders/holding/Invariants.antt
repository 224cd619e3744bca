use Rattle.std.proofs.Common.{◌≡◌, ◌++◌, drop}
use Rattle.es_binding_faults.specs.Seen.{seen}
use Rattle.es_by_number.specs.Numbered.{pairs}
use Rattle.es_owed_class_names.specs.Holders.{holding}
use Rattle.es_owed_class_names.proofs.holders.holding.Given as goal

abbrev pub invariant-loop-node : goal.invariant-loop-node
invariant-loop-node l = pairs l.items.items ++ holding l.functions l.classes (seen (drop l.node-index l.nodes)) ≡ holding l.functions l.classes (seen l.nodes)
