use Rattle.es_places.proofs.Placed.{around_is}
use Rattle.es_places.specs.Placing.{surroundings_of}
use Rattle.es_places.proofs.surroundings.surroundings_in.Goals as goal

pub returns : goal.returns
returns c = around_is c.args.first c.args.ledger.now (surroundings_of c.args.around) c.args.node.now c.args.i _ _ _ _ _ c.place_in.ensures c.hoisted_in.ensures c.is_in_var.ensures c.class_around.ensures c.constructs_at.ensures
