use Rattle.std.proofs.Common.{sym, ◌∙◌}
use Rattle.es_code_reading.specs.Contexts.{context_of}
use Rattle.es_code_operators.proofs.ChainForms.{operation_deleted}
use Rattle.es_code_operators.proofs.chain.+deleted_as.Goals as goal

pub returns-in-Operation : goal.returns-in-Operation
returns-in-Operation t c = c.deleted_operation.ensures ∙ sym (operation_deleted (context_of c.args.c.now) c.args.chain c.args.code c.in-Operation.node c.in-Operation.operation c.in-Operation.operands c.in-Operation.held c.in-Operation.is)
