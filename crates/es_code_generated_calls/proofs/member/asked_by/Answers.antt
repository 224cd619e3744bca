use Rattle.std.proofs.Common.{sym, ap, ◌∙◌, List}
use Rattle.std.proofs.lemmas.Result.{IfOk-weaker}
use Rattle.es_codes.specs.CodeView.{codes_of, helper_of}
use Rattle.es_codes.specs.declared.code.Code.{Code}
use Rattle.es_codes.specs.View.{test_of}
use Rattle.es_code_generated_calls.specs.MemberCalls.{asked_by, asked_of}
use Rattle.es_code_generated_calls.proofs.member.asked_by.Goals as goal

pub returns-in-CheckInRHS : goal.returns-in-CheckInRHS
returns-in-CheckInRHS c = IfOk-weaker c.asked_of.result _ _ (λ e h. h ∙ ap (λ (zs : List Code). asked_of c.args.node (test_of c.args.test) (codes_of zs)) c.as_mut_slice.ensures.value ∙ ap (λ k. asked_by c.args.node (test_of c.args.test) (helper_of k) (codes_of c.args.objects)) (sym c.in-CheckInRHS.is)) c.asked_of.ensures
