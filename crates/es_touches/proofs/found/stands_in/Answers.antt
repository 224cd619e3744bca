use Rattle.es_touches.proofs.FoundTouches.{in_body}
use Rattle.es_touches.specs.Touches.{body_of}
use Rattle.es_touches.proofs.found.stands_in.Goals as goal

pub returns : goal.returns
returns c = λ holds. in_body c.args.source.now (body_of c.args.body.now) c.args.other.now c.args.pair.now.touches.now c.args.pair.now.there.now c.args.i _ c.is_of_body_at.result c.may_be_there.result c.stands.result c.all_three.result c.all_three.ensures c.is_of_body_at.ensures c.may_be_there.ensures c.stands.ensures c.requires.among c.requires.there c.requires.below holds
