use Rattle.std.proofs.Common.{◌≡◌, ◌++◌, drop}
use Rattle.es_base.specs.Tree.{trees}
use Rattle.es_binding_faults.specs.Hoisted.{declarators}
use Rattle.es_binding_faults.specs.Named.{named}
use Rattle.es_binding_faults.proofs.hoisted.add_declarators.Given as goal

abbrev pub invariant-loop-node : goal.invariant-loop-node
invariant-loop-node l = named l.names.items ++ declarators (trees (drop l.node-index l.nodes)) ≡ named l.fn.names.items ++ declarators (trees l.nodes)
