use Rattle.std.proofs.Common.{sym}
use Rattle.es_code_operators.proofs.DeleteForms.{a_chain, a_member, a_super_member}
use Rattle.es_code_operators.proofs.deleted.deletion_of_code.Goals as goal

pub returns-in-Member : goal.returns-in-Member
returns-in-Member c = sym (a_member c.args.code.now c.in-Member.node c.in-Member.object c.in-Member.key c.in-Member.is)

pub returns-in-SuperMember : goal.returns-in-SuperMember
returns-in-SuperMember c = sym (a_super_member c.args.code.now c.in-SuperMember.node c.in-SuperMember.home c.in-SuperMember.key c.in-SuperMember.this c.in-SuperMember.is)

pub returns-in-Chain : goal.returns-in-Chain
returns-in-Chain c = sym (a_chain c.args.code.now c.in-Chain.node c.in-Chain.expression c.in-Chain.is)
