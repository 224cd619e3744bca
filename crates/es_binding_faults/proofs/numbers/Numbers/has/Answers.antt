use Rattle.std.proofs.Common.{◌∙◌, ap, sym}
use Rattle.es_steps.specs.References.{has_number}
use Rattle.es_binding_faults.proofs.HasNumbers.{has_number-keys}
use Rattle.es_binding_faults.proofs.numbers.Numbers.has.Goals as goal

pub returns : goal.returns
returns c = c.contains.ensures ∙ sym (has_number-keys c.args.node.0 c.self.inside.numbers) ∙ ap (has_number c.args.node.0) c.self.view_is
