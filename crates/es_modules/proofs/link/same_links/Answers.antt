use Rattle.std.proofs.Common.{◌∙◌}
use Rattle.es_by_number.proofs.Sameness.{same_viewed}
use Rattle.es_steps.specs.SameMeanings.{same_link}
use Rattle.es_modules.specs.Links.{link_in}
use Rattle.es_modules.proofs.link.same_links.Goals as goal

pub returns : goal.returns
returns c = c.same_list.ensures ∙ same_viewed same_link link_in c.args.left.now c.args.right.now
