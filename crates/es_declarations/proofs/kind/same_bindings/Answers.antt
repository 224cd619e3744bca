use Rattle.std.proofs.Common.{◌∙◌}
use Rattle.es_by_number.proofs.Sameness.{same_numbered_viewed}
use Rattle.es_steps.specs.SameMeanings.{same_declaration}
use Rattle.es_declarations.specs.Kinds.{binding_in}
use Rattle.es_declarations.proofs.kind.same_bindings.Goals as goal

pub returns : goal.returns
returns c = c.same_numbered.ensures ∙ same_numbered_viewed same_declaration binding_in c.args.left.now c.args.right.now
