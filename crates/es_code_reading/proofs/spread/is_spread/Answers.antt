use Rattle.std.proofs.Common.{◌∙◌, sym}
use Rattle.es_code_reading.proofs.Spreads.{an_operation}
use Rattle.es_code_reading.proofs.spread.is_spread.Goals as goal

pub returns-in-Operation : goal.returns-in-Operation
returns-in-Operation c = c.spreads.ensures ∙ sym (an_operation c.args.code.now c.in-Operation.node c.in-Operation.operation c.in-Operation.operands c.in-Operation.held c.in-Operation.is)
