use Rattle.std.proofs.Common.{sym, ◌∙◌}
use Rattle.es_code_generated_calls.proofs.MemberForms.{on_a_name}
use Rattle.es_code_generated_calls.proofs.member.receiver_of.Goals as goal

pub returns-in-Name : goal.returns-in-Name
returns-in-Name c = c.named_receiver.ensures ∙ sym (on_a_name c.args.object.now c.in-Name.node c.in-Name.spelling c.in-Name.kind c.in-Name.is)
