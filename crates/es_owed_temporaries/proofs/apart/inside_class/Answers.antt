use Rattle.std.proofs.Common.{ap, ◌∙◌}
use Rattle.es_binding_faults.specs.Seen.{seen}
use Rattle.es_lowered.specs.Temporaries.{nodes_of_class}
use Rattle.es_owed_initialized.proofs.InnerClasses.{nodes_numbered}
use Rattle.es_owed_temporaries.proofs.apart.inside_class.Goals as goal

pub returns : goal.returns
returns c = c.in_ok-inside.ensures ∙ ap (nodes_of_class c.args.class) c.numbered.ensures ∙ nodes_numbered c.args.class (seen c.args.lowered.now.nodes.items)
