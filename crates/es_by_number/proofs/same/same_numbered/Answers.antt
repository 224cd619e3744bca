use Rattle.std.proofs.Common.{◌∙◌}
use Rattle.es_by_number.proofs.Sameness.{same_pairs}
use Rattle.es_by_number.proofs.same.same_numbered.Goals as goal

pub returns : goal.returns
returns g c = c.same_list.ensures ∙ same_pairs g.T.Same.same c.args.left.now c.args.right.now
