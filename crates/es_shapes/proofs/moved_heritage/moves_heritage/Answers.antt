use Rattle.std.proofs.Common.{◌∙◌, ap}
use Rattle.es_steps.specs.Quiet.{nothing_around}
use Rattle.es_steps.specs.Shapes.{moves_heritage}
use Rattle.es_shapes.proofs.moved_heritage.moves_heritage.Goals as goal

pub returns : goal.returns
returns g c = c.found_in_node.ensures.moves_heritage ∙ ap (λ p. moves_heritage c.args.options.now p nothing_around c.args.program.now) c.requires
