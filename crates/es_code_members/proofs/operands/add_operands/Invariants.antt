use Rattle.std.proofs.Common.{◌≡◌, drop}
use Rattle.es_codes.specs.CodeView.{codes_of}
use Rattle.es_steps.specs.Code.{joined}
use Rattle.es_steps.specs.Members.{operands}
use Rattle.es_code_members.specs.MembersView.{members_of}
use Rattle.es_code_members.proofs.operands.add_operands.Given as goal

abbrev pub invariant-loop-member : goal.invariant-loop-member
invariant-loop-member l = joined (codes_of l.operands) (operands (members_of (drop l.member-index l.members))) ≡ joined (codes_of l.fn.operands) (operands (members_of l.fn.members))
