use Rattle.std.proofs.Common.{◌≡◌, ◌∙◌, ap, true, false, Some}
use Rattle.std.specs.Prelude.{◌&&◌}
use Rattle.es_codes.specs.CodeView.{codes_of}
use Rattle.es_codes.specs.View.{operation_of}
use Rattle.es_steps.specs.Context.{new_here}
use Rattle.es_code_reading.specs.Contexts.{context_of}
use Rattle.es_code_new_literals.specs.Literals.{no_codes}
use Rattle.es_code_new_literals.proofs.Operations.{an_operation, another_operation}
use Rattle.es_code_new_literals.proofs.operation.new_operation_ref.Goals as goal

pub returns-then-is_unheld : goal.returns-then-is_unheld
returns-then-is_unheld c =
    let unheld : (new_here (context_of c.args.c.now) c.in-Operation.node && no_codes (codes_of c.in-Operation.held)) ≡ true = cc (c.is_unheld.ensures, c.as_slice.ensures, c.if-is_unheld.true) in
    ap (λ es. Some (operation_of c.in-Operation.operation, codes_of es)) c.as_slice-then-is_unheld.ensures
    ∙ an_operation (context_of c.args.c.now) c.args.code.now c.in-Operation.node c.in-Operation.operation c.in-Operation.operands c.in-Operation.held c.in-Operation.is unheld

pub returns-else-is_unheld : goal.returns-else-is_unheld
returns-else-is_unheld c =
    let unheld : (new_here (context_of c.args.c.now) c.in-Operation.node && no_codes (codes_of c.in-Operation.held)) ≡ false = cc (c.is_unheld.ensures, c.as_slice.ensures, c.if-is_unheld.false) in
    another_operation (context_of c.args.c.now) c.args.code.now c.in-Operation.node c.in-Operation.operation c.in-Operation.operands c.in-Operation.held c.in-Operation.is unheld
