use Rattle.std.proofs.Common.{◌≡◌, drop}
use Rattle.std.specs.Option.{option_to_list}
use Rattle.es_binding_faults.specs.Seen.{seen}
use Rattle.es_owed_dead_zones.specs.Bodies as bodied
use Rattle.es_owed_dead_zones.proofs.bodies.fields_among.Given as goal

abbrev pub invariant-loop-node : goal.invariant-loop-node
invariant-loop-node l = bodied.field_touches l.program (option_to_list l.class) (seen (drop l.node-index l.nodes)) ≡ bodied.field_touches l.program (option_to_list l.class) (seen l.nodes)
