use Rattle.std.proofs.Common.{◌≡◌, sym, ap, ◌∙◌}
use Rattle.std.proofs.lemmas.Result.{IfOk-weaker}
use Rattle.es_codes.specs.CodeView.{codes_of}
use Rattle.es_codes.specs.View.{reference_of}
use Rattle.es_code_assignments.specs.Privates.{written_by}
use Rattle.es_code_assignments.proofs.PrivateForms.{arguments_taken}
use Rattle.es_code_assignments.proofs.private.written_branded.Goals as goal

pub returns-in-HelperCall : goal.returns-in-HelperCall
returns-in-HelperCall c =
    let same : c.as_mut_slice.result.now ≡ c.in-HelperCall.arguments = cc (c.as_mut_slice.ensures.value, c.in-HelperCall.arguments-is) in
    IfOk-weaker c.written_by.result _ _ (λ e h.
    h
    ∙ ap (λ cs. written_by c.args.is_new c.args.node c.args.member (reference_of c.args.means) (codes_of cs)) same
    ∙ ap (written_by c.args.is_new c.args.node c.args.member (reference_of c.args.means)) (sym (arguments_taken c.args.right.now c.in-HelperCall.node c.in-HelperCall.helper c.in-HelperCall.arguments c.in-HelperCall.is))) c.written_by.ensures
