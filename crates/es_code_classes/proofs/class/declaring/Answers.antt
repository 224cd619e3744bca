use Rattle.std.proofs.Common.{sym, ◌∙◌}
use Rattle.es_code_classes.proofs.Declaring.{by_binding}
use Rattle.es_code_classes.proofs.class.declaring.Goals as goal

pub returns-in-Binding : goal.returns-in-Binding
returns-in-Binding c = c.unless_generated.ensures ∙ sym (by_binding c.args.code.now c.in-Binding.node c.in-Binding.spelling c.in-Binding.kind c.in-Binding.is)
