use Rattle.std.proofs.Common.{sym, ◌∙◌}
use Rattle.std.specs.Str.{chars}
use Rattle.es_code_generated_calls.proofs.SuperForms.{an_operation}
use Rattle.es_code_generated_calls.proofs.supers.is_spread_of.Goals as goal

pub returns-in-Operation : goal.returns-in-Operation
returns-in-Operation c = c.is_only.ensures ∙ sym (an_operation (chars c.args.name.now) c.args.code.now c.in-Operation.node c.in-Operation.operation c.in-Operation.operands c.in-Operation.held c.in-Operation.is)
