use Rattle.std.proofs.Common.{◌≡◌, ◌++◌, drop}
use Rattle.es_binding_faults.specs.Seen.{seen}
use Rattle.es_lowered.specs.Timely.{super_functions}
use Rattle.es_owed_timely.specs.Functions.{super_functions_of}
use Rattle.es_owed_timely.proofs.functions.super_functions.Given as goal

abbrev pub invariant-loop-node : goal.invariant-loop-node
invariant-loop-node l = super_functions_of l.functions.items ++ super_functions l.ledger (seen (drop l.node-index l.nodes)) ≡ super_functions l.ledger (seen l.nodes)
