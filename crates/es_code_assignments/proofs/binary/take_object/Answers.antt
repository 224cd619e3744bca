use Rattle.std.proofs.Common.{◌≡◌, sym, ap, ◌∙◌}
use Rattle.es_codes.specs.CodeView.{codes_of}
use Rattle.es_code_conditionals.specs.Ends.{first_of}
use Rattle.es_code_assignments.proofs.BinaryForms.{object_checked}
use Rattle.es_code_assignments.proofs.binary.take_object.Goals as goal

pub returns-in-HelperCall : goal.returns-in-HelperCall
returns-in-HelperCall c =
    let same : c.as_mut_slice.result.now ≡ c.in-HelperCall.arguments = cc (c.as_mut_slice.ensures.value, c.in-HelperCall.arguments-is) in
    c.take_first.ensures
    ∙ ap (λ cs. first_of (codes_of cs)) same
    ∙ sym (object_checked c.args.code.now c.in-HelperCall.node c.in-HelperCall.helper c.in-HelperCall.arguments c.in-HelperCall.is)
