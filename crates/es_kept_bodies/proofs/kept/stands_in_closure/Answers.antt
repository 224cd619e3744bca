use Rattle.std.proofs.Common.{◌∙◌}
use Rattle.es_touches.specs.Touches.{closures_of, touch_of}
use Rattle.es_kept_bodies.proofs.IndexedBodies.{by_parts}
use Rattle.es_kept_bodies.proofs.kept.stands_in_closure.Goals as goal

pub returns : goal.returns
returns c = c.any_of_closure.ensures ∙ by_parts (closures_of c.args.indexed.now.source.now.called.now) (touch_of c.args.touch)
