use Rattle.std.proofs.Common.{◌≡◌, IfOk, subst}
use Rattle.es_touches.specs.Comparison as compared
use Rattle.es_touches.specs.Touches.{bodies_of}
use Rattle.es_touches.specs.declared.source.Source.{Source}
use Rattle.es_kept_bodies.proofs.bodies.bodies_fit.Goals as goal

pub returns : goal.returns
returns c = subst (λ (s : Source). IfOk c.all_fit.result (λ holds. holds ≡ compared.bodies_fit s (bodies_of c.args.bodies.now))) c.in_ok-indexed.ensures c.all_fit.ensures
