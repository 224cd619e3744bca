use Rattle.std.proofs.Common.{sym, ◌∙◌}
use Rattle.es_code_reading.specs.Contexts.{context_of}
use Rattle.es_code_classes.proofs.FunctionNames.{own_binding}
use Rattle.es_code_classes.proofs.function.own_binding.Goals as goal

pub returns-in-Binding : goal.returns-in-Binding
returns-in-Binding c = c.unless_new.ensures ∙ sym (own_binding (context_of c.args.c.now) c.args.name.now c.in-Binding.node c.in-Binding.spelling c.in-Binding.kind c.in-Binding.is)
