use Rattle.std.proofs.Common.{◌∙◌}
use Rattle.es_base.specs.Preorder.{preorder}
use Rattle.es_owed_class_names.proofs.NewNames.{numbered_among}
use Rattle.es_owed_class_names.proofs.holders.holds.Goals as goal

pub returns : goal.returns
returns c = c.any_node.ensures ∙ numbered_among c.args.class (preorder c.args.node.now)
