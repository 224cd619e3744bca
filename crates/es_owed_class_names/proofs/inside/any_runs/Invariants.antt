use Rattle.std.proofs.Common.{◌≡◌, drop}
use Rattle.es_binding_faults.specs.Seen.{seen}
use Rattle.es_lowered.specs.ClassNames.{class_runs}
use Rattle.es_owed_class_names.proofs.inside.any_runs.Given as goal

abbrev pub invariant-loop-node : goal.invariant-loop-node
invariant-loop-node l = class_runs l.class (seen (drop l.node-index l.nodes)) ≡ class_runs l.class (seen l.nodes)
