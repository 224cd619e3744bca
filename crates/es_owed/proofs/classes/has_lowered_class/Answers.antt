use Rattle.std.proofs.Common.{◌∙◌}
use Rattle.es_base.specs.Preorder.{preorder}
use Rattle.es_owed.proofs.Nodes.{any_lowered}
use Rattle.es_owed.proofs.classes.has_lowered_class.Goals as goal

pub returns : goal.returns
returns c = c.any_node.ensures ∙ any_lowered c.args.options.now (preorder c.args.node.now)
