use Rattle.std.proofs.Common.{◌≡◌, ◌++◌, drop}
use Rattle.es_base.specs.Tree.{trees}
use Rattle.es_steps.specs.Scopes.{body_names}
use Rattle.es_binding_faults.specs.Named.{named, plain}
use Rattle.es_binding_faults.proofs.scopes.add_body_list.Given as goal

abbrev pub invariant-loop-node : goal.invariant-loop-node
invariant-loop-node l = named l.names.items ++ plain (body_names (trees (drop l.node-index l.nodes))) ≡ named l.fn.names.items ++ plain (body_names (trees l.nodes))
