use Rattle.std.proofs.Common.{◌≡◌, drop}
use Rattle.std.specs.Str.{chars}
use Rattle.es_binding_faults.specs.Seen.{seen}
use Rattle.es_lowered.specs.OwnNames.{declares_class}
use Rattle.es_owed_names.proofs.own_names.declares_class.Given as goal

abbrev pub invariant-loop-node : goal.invariant-loop-node
invariant-loop-node l = declares_class l.class (chars l.name) (seen (drop l.node-index l.nodes)) ≡ declares_class l.class (chars l.name) (seen l.nodes)
