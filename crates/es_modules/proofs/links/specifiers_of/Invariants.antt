use Rattle.std.proofs.Common.{◌≡◌, ◌++◌, drop}
use Rattle.es_base.specs.Tree.{trees}
use Rattle.es_steps.specs.Modules.{specifiers_of}
use Rattle.es_modules.specs.Links.{specifiers_in}
use Rattle.es_modules.proofs.links.specifiers_of.Given as goal

abbrev pub invariant-loop-node : goal.invariant-loop-node
invariant-loop-node l = specifiers_in l.specifiers.items ++ specifiers_of (trees (drop l.node-index l.nodes)) ≡ specifiers_of (trees l.nodes)
