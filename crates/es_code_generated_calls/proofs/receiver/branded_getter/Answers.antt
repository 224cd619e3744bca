use Rattle.std.proofs.Common.{sym, ap, ◌∙◌, List}
use Rattle.std.proofs.lemmas.Result.{IfOk-weaker}
use Rattle.es_codes.specs.CodeView.{codes_of, helper_of}
use Rattle.es_codes.specs.declared.code.Code.{Code}
use Rattle.es_seen_names.specs.PrivateMembers.{private_member_of}
use Rattle.es_code_generated_calls.specs.Receivers.{asserted_getter, branded_getter}
use Rattle.es_code_generated_calls.proofs.receiver.branded_getter.Goals as goal

pub returns-in-AssertClassBrand : goal.returns-in-AssertClassBrand
returns-in-AssertClassBrand c = IfOk-weaker c.asserted_getter.result _ _ (λ e h. h ∙ ap (λ (zs : List Code). asserted_getter c.args.node (private_member_of c.args.member.now) (codes_of zs)) c.as_mut_slice.ensures.value ∙ ap (λ k. branded_getter c.args.node (private_member_of c.args.member.now) (helper_of k) (codes_of c.args.asserted)) (sym c.in-AssertClassBrand.is)) c.asserted_getter.ensures
