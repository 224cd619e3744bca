use Rattle.std.proofs.Common.{◌≡◌, ◌++◌, drop}
use Rattle.es_base.specs.Tree.{nullable_trees}
use Rattle.es_steps.specs.References.{function_names}
use Rattle.es_outside.specs.InnerFunctions.{texts}
use Rattle.es_outside.proofs.inner_functions.add_function_names_with_holes.Given as goal

abbrev pub invariant-loop-node : goal.invariant-loop-node
invariant-loop-node l = texts l.names.items ++ function_names (nullable_trees (drop l.node-index l.nodes)) ≡ texts l.fn.names.items ++ function_names (nullable_trees l.nodes)
