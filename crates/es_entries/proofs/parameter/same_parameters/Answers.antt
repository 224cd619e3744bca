use Rattle.std.proofs.Common.{◌∙◌}
use Rattle.es_by_number.proofs.Sameness.{same_viewed}
use Rattle.es_steps.specs.SameMeanings.{same_parameter}
use Rattle.es_entries.specs.Parameters.{parameter_in}
use Rattle.es_entries.proofs.parameter.same_parameters.Goals as goal

pub returns : goal.returns
returns c = c.same_list.ensures ∙ same_viewed same_parameter parameter_in c.args.left.now c.args.right.now
