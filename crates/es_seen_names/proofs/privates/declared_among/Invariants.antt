use Rattle.std.proofs.Common.{◌≡◌, drop}
use Rattle.std.specs.Str.{chars}
use Rattle.es_steps.specs.PrivateNames.{declared_member}
use Rattle.es_seen_names.specs.PrivateMembers.{private_members_of}
use Rattle.es_seen_names.proofs.privates.declared_among.Given as goal

abbrev pub invariant-loop-member : goal.invariant-loop-member
invariant-loop-member l = declared_member (chars l.name) (private_members_of (drop l.member-index l.members)) ≡ declared_member (chars l.name) (private_members_of l.members)
