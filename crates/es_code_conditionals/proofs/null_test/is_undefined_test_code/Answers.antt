use Rattle.std.proofs.Common.{sym, ap, ◌∙◌}
use Rattle.es_codes.specs.CodeView.{code_of}
use Rattle.es_code_reading.specs.Contexts.{context_of}
use Rattle.es_code_conditionals.specs.Comparisons.{double_test}
use Rattle.es_code_conditionals.proofs.Comparisons.{one_test, two_tests}
use Rattle.es_code_conditionals.proofs.null_test.is_undefined_test_code.Goals as goal

pub returns-in-Logical : goal.returns-in-Logical
returns-in-Logical c =
    c.is_double_test.ensures
    ∙ ap (λ l. double_test (context_of c.args.c.now) c.in-Logical.node c.in-Logical.operator (code_of l) (code_of c.get-in-Logical.result.now)) c.get.ensures
    ∙ ap (λ r. double_test (context_of c.args.c.now) c.in-Logical.node c.in-Logical.operator (code_of c.in-Logical.left) (code_of r)) c.get-in-Logical.ensures
    ∙ sym (two_tests (context_of c.args.c.now) c.args.code.now c.in-Logical.node c.in-Logical.operator c.in-Logical.left c.in-Logical.right c.in-Logical.is)

pub returns-in-Operation : goal.returns-in-Operation
returns-in-Operation c = c.is_single_test.ensures ∙ sym (one_test (context_of c.args.c.now) c.args.code.now c.in-Operation.node c.in-Operation.operation c.in-Operation.operands c.in-Operation.held c.in-Operation.is)
