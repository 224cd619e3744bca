use Rattle.std.proofs.Common.{◌≡◌, drop}
use Rattle.es_kept_bodies.specs.Kept.{any_same}
use Rattle.es_kept_bodies.specs.Indexed.{bodies_seen}
use Rattle.es_touches.specs.Touches.{body_of}
use Rattle.es_kept_bodies.proofs.kept.any_same.Given as goal

abbrev pub invariant-loop-other : goal.invariant-loop-other
invariant-loop-other l = any_same (body_of l.body) (bodies_seen (drop l.other-index l.others)) ≡ any_same (body_of l.body) (bodies_seen l.others)
