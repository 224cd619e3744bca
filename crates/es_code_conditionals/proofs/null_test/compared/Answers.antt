use Rattle.std.proofs.Common.{sym, ◌∙◌}
use Rattle.es_code_conditionals.proofs.Comparisons.{an_operation}
use Rattle.es_code_conditionals.proofs.null_test.compared.Goals as goal

pub returns-in-Operation : goal.returns-in-Operation
returns-in-Operation c = c.compared_by.ensures ∙ sym (an_operation c.args.operator.now c.args.code.now c.in-Operation.node c.in-Operation.operation c.in-Operation.operands c.in-Operation.held c.in-Operation.is)
