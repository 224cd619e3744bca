use Rattle.std.proofs.Common.{◌∙◌, sym}
use Rattle.es_shapes.specs.Classes.{element_view}
use Rattle.es_shapes.proofs.NameScopes.{trails_static}
use Rattle.es_shapes.proofs.name_scope.blocks_with.Goals as goal

pub returns-then-is_static_field-clause-trails : goal.returns-then-is_static_field-clause-trails
returns-then-is_static_field-clause-trails c = λ rest. trails_static c.args.blocks c.args.element.now (element_view c.in-Some.element) rest c.in-Some.ensures (sym c.is_static_field.ensures ∙ c.if-is_static_field.true)
