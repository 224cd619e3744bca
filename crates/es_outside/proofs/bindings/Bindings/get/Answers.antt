use Rattle.std.proofs.Common.{◌∙◌, ap}
use Rattle.es_outside.specs.Bindings.{binding_in, flat}
use Rattle.es_outside.proofs.BoundNames.{looked_up}
use Rattle.es_outside.proofs.bindings.Bindings.get.Goals as goal

pub returns : goal.returns
returns c = c.flat.ensures ∙ ap flat (c.copied.ensures ∙ c.get.ensures.value) ∙ looked_up c.args.reference.0 c.self.inside.bindings.entries ∙ ap (binding_in c.args.reference.0) c.self.view_is
