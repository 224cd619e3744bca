use Rattle.std.proofs.Common.{◌∙◌, ap, sym}
use Rattle.es_steps.specs.LoweredClasses.{has_no_items}
use Rattle.es_steps.specs.Parts.{at}
use Rattle.es_node.specs.View.{parts_in}
use Rattle.es_duplicates.proofs.Forms.{no_expressions}
use Rattle.es_duplicates.proofs.repetition.has_no_expressions.Goals as goal

pub returns : goal.returns
returns c = c.is_empty.ensures ∙ sym (ap (λ t. has_no_items (at 1 (parts_in t))) c.from_node.ensures ∙ no_expressions c.from_node.result.expressions.now)
