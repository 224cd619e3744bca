use Rattle.std.proofs.Common.{◌≡◌, ◌++◌, drop}
use Rattle.es_binding_faults.specs.Seen.{seen}
use Rattle.es_steps.specs.PrivateNames.{members_of_all}
use Rattle.es_seen_names.specs.PrivateMembers.{private_members_of}
use Rattle.es_seen_names.proofs.private_member.private_members.Given as goal

abbrev pub invariant-loop-node : goal.invariant-loop-node
invariant-loop-node l = private_members_of l.members.items ++ members_of_all (seen (drop l.node-index l.node-items)) ≡ members_of_all (seen l.node-items)
