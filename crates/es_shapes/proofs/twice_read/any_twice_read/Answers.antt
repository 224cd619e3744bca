use Rattle.std.proofs.Common.{◌∙◌, ap, false}
use Rattle.es_steps.specs.References.{resolve, varying}
use Rattle.es_steps.specs.Shapes.{reads_twice}
use Rattle.es_shapes.proofs.twice_read.any_twice_read.Goals as goal

pub returns : goal.returns
returns g c = c.reads_twice.ensures ∙ ap (λ p. reads_twice c.args.options.now (varying p) (resolve p) false false c.args.program.now) c.requires
