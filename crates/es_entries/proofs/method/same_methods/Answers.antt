use Rattle.std.proofs.Common.{◌∙◌}
use Rattle.es_by_number.proofs.Sameness.{same_viewed}
use Rattle.es_steps.specs.SameMeanings.{same_method}
use Rattle.es_entries.specs.Methods.{method_in}
use Rattle.es_entries.proofs.method.same_methods.Goals as goal

pub returns : goal.returns
returns c = c.same_list.ensures ∙ same_viewed same_method method_in c.args.left.now c.args.right.now
