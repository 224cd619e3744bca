use Rattle.std.proofs.Common.{◌≡◌, ◌++◌, drop}
use Rattle.es_base.specs.Tree.{nullable_trees}
use Rattle.es_steps.specs.Modules.{links_in}
use Rattle.es_modules.specs.Links.{links_of}
use Rattle.es_modules.proofs.links.add_links_with_holes.Given as goal

abbrev pub invariant-loop-node : goal.invariant-loop-node
invariant-loop-node l = links_of l.links.items ++ links_in (nullable_trees (drop l.node-index l.nodes)) ≡ links_of l.fn.links.items ++ links_in (nullable_trees l.nodes)
