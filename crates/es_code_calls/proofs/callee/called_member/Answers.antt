use Rattle.std.proofs.Common.{sym, ◌∙◌}
use Rattle.es_code_calls.proofs.Called.{of_member, of_private, of_super}
use Rattle.es_code_calls.proofs.callee.called_member.Goals as goal

pub returns-in-Member : goal.returns-in-Member
returns-in-Member c = c.on_member.ensures ∙ sym (of_member c.args.code c.in-Member.node c.in-Member.object c.in-Member.key c.in-Member.is)

pub returns-in-PrivateMember : goal.returns-in-PrivateMember
returns-in-PrivateMember c = c.on_private.ensures ∙ sym (of_private c.args.code c.in-PrivateMember.node c.in-PrivateMember.means c.in-PrivateMember.object c.in-PrivateMember.is)

pub returns-in-SuperMember : goal.returns-in-SuperMember
returns-in-SuperMember c = c.on_super.ensures ∙ sym (of_super c.args.code c.in-SuperMember.node c.in-SuperMember.home c.in-SuperMember.key c.in-SuperMember.this c.in-SuperMember.is)
