use Rattle.std.proofs.Common.{sym, ◌∙◌}
use Rattle.es_code_targets.proofs.Written.{of_binding, of_name}
use Rattle.es_code_targets.proofs.target.+written_target.Goals as goal

pub returns-in-Name : goal.returns-in-Name
returns-in-Name t c = c.to_name.ensures ∙ sym (of_name c.args.code c.in-Name.node c.in-Name.spelling c.in-Name.kind c.in-Name.is)

pub returns-in-Binding : goal.returns-in-Binding
returns-in-Binding t c = c.to_name-in-Binding.ensures ∙ sym (of_binding c.args.code c.in-Binding.node c.in-Binding.spelling c.in-Binding.kind c.in-Binding.is)
