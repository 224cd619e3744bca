use Rattle.std.proofs.Common.{ap, ◌∙◌, List}
use Rattle.std.proofs.lemmas.Result.{IfOk-weaker}
use Rattle.es_codes.specs.CodeView.{codes_of}
use Rattle.es_codes.specs.declared.code.Code.{Code}
use Rattle.es_code_reading.specs.Contexts.{context_of}
use Rattle.es_code_generated_calls.specs.SuperCalls.{super_called}
use Rattle.es_code_generated_calls.proofs.supers.super_called.Goals as goal

pub returns : goal.returns
returns c =
    let of_call = λ (xs ys : List Code). super_called (context_of c.args.c.now) c.args.node c.args.member (codes_of xs) (codes_of ys) in
    IfOk-weaker c.super_called_by.result _ _ (λ e h.
    h
    ∙ ap (λ (xs : List Code). of_call xs c.as_mut_slice-2.result.now) c.as_mut_slice.ensures.value
    ∙ ap (λ (ys : List Code). of_call c.args.of_member ys) c.as_mut_slice-2.ensures.value) c.super_called_by.ensures
