use Rattle.std.proofs.Common.{ap, ◌∙◌, List}
use Rattle.std.proofs.lemmas.Result.{IfOk-weaker}
use Rattle.es_codes.specs.CodeView.{codes_of}
use Rattle.es_codes.specs.declared.code.Code.{Code}
use Rattle.es_code_reading.specs.Contexts.{context_of}
use Rattle.es_code_generated_calls.specs.MemberCalls.{initialized_loosely}
use Rattle.es_code_generated_calls.proofs.member.initialized_loosely.Goals as goal

pub returns : goal.returns
returns c = IfOk-weaker c.initialized_by.result _ _ (λ e h. h ∙ ap (λ (zs : List Code). initialized_loosely (context_of c.args.c.now) c.args.node c.args.key (codes_of zs)) c.as_mut_slice.ensures.value) c.initialized_by.ensures
