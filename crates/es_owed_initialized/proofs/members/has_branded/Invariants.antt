use Rattle.std.proofs.Common.{◌≡◌, drop}
use Rattle.es_seen_names.specs.PrivateMembers.{private_members_of}
use Rattle.es_lowered.specs.Lowered.{has_branded}
use Rattle.es_owed_initialized.proofs.members.has_branded.Given as goal

abbrev pub invariant-loop-member : goal.invariant-loop-member
invariant-loop-member l = has_branded l.class (private_members_of (drop l.member-index l.members)) ≡ has_branded l.class (private_members_of l.members)
