use Rattle.std.proofs.Common.{ap, ◌∙◌, subst}
use Rattle.std.specs.List.{All}
use Rattle.class_properties.proofs.Children.{children_of}
use Rattle.class_properties.specs.Form.{IsField, body_of, elements_of}
use Rattle.class_properties.proofs.class.lower_class.Goals as goal

pub lower_elements-requires : goal.lower_elements-requires
lower_elements-requires c = subst (All IsField) (ap (λ t. elements_of (body_of t)) c.from_node-class.ensures ∙ ap elements_of c.from_node-body.ensures ∙ children_of c.from_node-body.result.body) c.requires.fields
