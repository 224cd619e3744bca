use Rattle.std.proofs.Common.{◌≡◌, ◌++◌, drop}
use Rattle.es_binding_faults.specs.Seen.{seen}
use Rattle.es_owed_dead_zones.specs.Bodies as bodied
use Rattle.es_owed_dead_zones.proofs.bodies.bodies.Given as goal

abbrev pub invariant-loop-node : goal.invariant-loop-node
invariant-loop-node l = bodied.kept_bodies l.bodies.items ++ bodied.bodies l.program (seen (drop l.node-index l.nodes)) ≡ bodied.bodies l.program (seen l.nodes)
