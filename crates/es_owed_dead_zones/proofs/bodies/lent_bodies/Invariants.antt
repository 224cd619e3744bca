use Rattle.std.proofs.Common.{◌≡◌, ◌++◌, drop}
use Rattle.es_owed_dead_zones.specs.Bodies as bodied
use Rattle.es_touches.specs.Touches.{bodies_of}
use Rattle.es_owed_dead_zones.proofs.bodies.lent_bodies.Given as goal

abbrev pub invariant-loop-body : goal.invariant-loop-body
invariant-loop-body l = bodies_of l.bodies.items ++ bodied.kept_bodies (drop l.body-index l.kept) ≡ bodied.kept_bodies l.kept
