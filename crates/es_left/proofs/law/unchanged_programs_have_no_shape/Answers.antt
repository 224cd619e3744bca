use Rattle.es_left.proofs.Shapeless.{no_shapes}
use Rattle.es_left.proofs.law.unchanged_programs_have_no_shape.Goals as goal

pub returns : goal.returns
returns c = no_shapes
