use Rattle.std.proofs.Common.{◌≡◌, ◌++◌, drop}
use Rattle.es_binding_faults.specs.Seen.{seen}
use Rattle.es_lowered.specs.Timely.{declared_methods}
use Rattle.es_marks.specs.MethodFunctions.{method_functions}
use Rattle.es_owed_timely.proofs.functions.declared_methods.Given as goal

abbrev pub invariant-loop-node : goal.invariant-loop-node
invariant-loop-node l = method_functions l.functions.items ++ declared_methods l.ledger (seen (drop l.node-index l.nodes)) ≡ declared_methods l.ledger (seen l.nodes)
