use Rattle.std.proofs.Common.{sym, ap, ◌∙◌, option_map}
use Rattle.std.proofs.lemmas.Result.{IfOk-weaker}
use Rattle.es_codes.specs.CodeView.{codes_of}
use Rattle.es_seen_names.specs.PrivateMembers.{private_member_of}
use Rattle.es_steps.specs.GeneratedForms as spec
use Rattle.es_code_generated_calls.proofs.MemberForms.{field_by}
use Rattle.es_code_generated_calls.proofs.member.has_field.Goals as goal

pub returns-in-Some : goal.returns-in-Some
returns-in-Some c = IfOk-weaker c.asked.result _ _ (λ e h. h ∙ field_by c.args.node (private_member_of c.in-Some.member) (codes_of c.args.arguments.now) ∙ ap (λ o. spec.has_field c.args.node (option_map private_member_of o) (codes_of c.args.arguments.now)) (sym c.in-Some.is)) c.asked.ensures
