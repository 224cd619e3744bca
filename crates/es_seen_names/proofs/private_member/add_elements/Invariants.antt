use Rattle.std.proofs.Common.{◌≡◌, ◌++◌, drop}
use Rattle.es_base.specs.Tree.{trees}
use Rattle.es_steps.specs.PrivateNames.{elements_members}
use Rattle.es_seen_names.specs.PrivateMembers.{private_members_of}
use Rattle.es_seen_names.proofs.private_member.add_elements.Given as goal

abbrev pub invariant-loop-element : goal.invariant-loop-element
invariant-loop-element l = private_members_of l.members.items ++ elements_members l.class (trees (drop l.element-index l.elements)) ≡ private_members_of l.fn.members.items ++ elements_members l.class (trees l.elements)
