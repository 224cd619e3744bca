use Rattle.std.proofs.Common.{◌≡◌, drop}
use Rattle.es_base.specs.Tree.{trees}
use Rattle.es_steps.specs.Printable.{any_uncooked}
use Rattle.es_printable.proofs.templates.is_any_uncooked.Given as goal

abbrev pub invariant-loop-node : goal.invariant-loop-node
invariant-loop-node l = any_uncooked (trees (drop l.node-index l.nodes)) ≡ any_uncooked (trees l.nodes)
