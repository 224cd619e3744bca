use Rattle.std.proofs.Common.{sym, ◌∙◌}
use Rattle.es_touches.specs.Touches.{body_of}
use Rattle.es_kept_bodies.proofs.KeptBodies.{kept_fits}
use Rattle.es_kept_bodies.proofs.bodies.body_fits.Goals as goal

pub returns-then-is_kept_body : goal.returns-then-is_kept_body
returns-then-is_kept_body c = kept_fits c.args.indexed.now.source.now (body_of c.args.body.now) (sym c.is_kept_body.ensures ∙ c.if-is_kept_body.true)
