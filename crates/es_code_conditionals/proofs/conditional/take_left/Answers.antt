use Rattle.std.proofs.Common.{◌≡◌, sym, ap, ◌∙◌}
use Rattle.es_codes.specs.CodeView.{codes_of}
use Rattle.es_code_conditionals.specs.Ends.{first_of}
use Rattle.es_code_conditionals.proofs.EndForms.{left_operand}
use Rattle.es_code_conditionals.proofs.conditional.take_left.Goals as goal

pub returns-in-Operation : goal.returns-in-Operation
returns-in-Operation c =
    let same : c.as_mut_slice.result.now ≡ c.in-Operation.operands = cc (c.as_mut_slice.ensures.value, c.in-Operation.operands-is) in
    c.take_first.ensures
    ∙ ap (λ cs. first_of (codes_of cs)) same
    ∙ sym (left_operand c.args.code.now c.in-Operation.node c.in-Operation.operation c.in-Operation.operands c.in-Operation.held c.in-Operation.is)
