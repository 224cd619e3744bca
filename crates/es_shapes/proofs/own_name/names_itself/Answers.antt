use Rattle.std.proofs.Common.{ap}
use Rattle.std.specs.Prelude.{option_map}
use Rattle.es_base.specs.Tree.{nullable}
use Rattle.es_steps.specs.References.{resolve}
use Rattle.es_shapes.specs.Classes.{class_view, is_lowered}
use Rattle.es_shapes.proofs.Names.{unnamed_class}
use Rattle.es_shapes.proofs.own_name.names_itself.Goals as goal

pub returns-in-None : goal.returns-in-None
returns-in-None g c = unnamed_class (is_lowered c.args.options.now (class_view c.args.class)) (resolve (g.F.NameFacts.program c.args.facts.now)) (class_view c.args.class) (ap (λ i. nullable (option_map (λ x. x.now) i)) c.in-None.is)
