use Rattle.std.proofs.Common.{sym, ◌∙◌}
use Rattle.es_code_generated_calls.proofs.ArrowForms.{a_parameter, another_binding}
use Rattle.es_code_generated_calls.proofs.arrow.parameter_name.Goals as goal

pub returns-then-is_parameter : goal.returns-then-is_parameter
returns-then-is_parameter c = sym (a_parameter c.args.code.now c.in-Binding.node c.in-Binding.spelling c.in-Binding.kind c.in-Binding.is (sym c.is_parameter.ensures ∙ c.if-is_parameter.true))

pub returns-else-is_parameter : goal.returns-else-is_parameter
returns-else-is_parameter c = sym (another_binding c.args.code.now c.in-Binding.node c.in-Binding.spelling c.in-Binding.kind c.in-Binding.is (sym c.is_parameter.ensures ∙ c.if-is_parameter.false))
