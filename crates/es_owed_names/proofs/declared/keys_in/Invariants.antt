use Rattle.std.proofs.Common.{◌≡◌, ◌++◌, drop}
use Rattle.std.specs.Str.{chars}
use Rattle.es_binding_faults.specs.Seen.{seen}
use Rattle.es_lowered.specs.Lowered.{keys_in}
use Rattle.es_owed_names.proofs.declared.keys_in.Given as goal

abbrev pub invariant-loop-node : goal.invariant-loop-node
invariant-loop-node l = l.keys.items ++ keys_in l.first l.class (chars l.name) (seen (drop l.node-index l.nodes)) ≡ keys_in l.first l.class (chars l.name) (seen l.nodes)
