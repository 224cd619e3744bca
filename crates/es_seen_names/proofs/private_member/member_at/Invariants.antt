use Rattle.std.proofs.Common.{◌≡◌, drop}
use Rattle.es_steps.specs.PrivateNames.{member_at}
use Rattle.es_seen_names.specs.PrivateMembers.{private_members_of}
use Rattle.es_seen_names.proofs.private_member.member_at.Given as goal

abbrev pub invariant-loop-member : goal.invariant-loop-member
invariant-loop-member l = member_at l.node (private_members_of (drop l.member-index l.members)) ≡ member_at l.node (private_members_of l.members)
