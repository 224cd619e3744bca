use Rattle.std.proofs.Common.{ap, ◌∙◌, List}
use Rattle.std.proofs.lemmas.Result.{IfOk-weaker}
use Rattle.es_codes.specs.CodeView.{codes_of}
use Rattle.es_codes.specs.declared.code.Code.{Code}
use Rattle.es_code_reading.specs.Contexts.{context_of}
use Rattle.es_code_generated_members.specs.Members.{member_of_two}
use Rattle.es_code_generated_members.proofs.member.member_of_list.Goals as goal

pub returns : goal.returns
returns c = IfOk-weaker c.member_of_two.result _ _ (λ e h. h ∙ ap (λ (zs : List Code). member_of_two (context_of c.args.c.now) c.args.node c.args.is_computed c.args.is_optional (codes_of zs)) c.as_mut_slice.ensures.value) c.member_of_two.ensures
