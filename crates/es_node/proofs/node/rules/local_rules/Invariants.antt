use Rattle.std.proofs.Common.{◌≡◌, drop}
use Rattle.es_base.specs.Conforms.{local_rules}
use Rattle.es_base.specs.Tree.{trees}
use Rattle.es_node.specs.View.{part_of}
use Rattle.es_node.proofs.node.rules.local_rules.Given as goal

abbrev pub invariant-loop-specifier : goal.invariant-loop-specifier
invariant-loop-specifier l = local_rules (trees (drop l.specifier-index l.specifiers)) (part_of l.source) ≡ local_rules (trees l.specifiers) (part_of l.source)
