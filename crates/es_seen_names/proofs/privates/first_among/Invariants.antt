use Rattle.std.proofs.Common.{◌≡◌, drop}
use Rattle.std.specs.Str.{chars}
use Rattle.es_steps.specs.PrivateNames.{first_number}
use Rattle.es_seen_names.specs.PrivateMembers.{private_members_of}
use Rattle.es_seen_names.specs.Sides.{is_of_side}
use Rattle.es_seen_names.proofs.privates.first_among.Given as goal

abbrev pub invariant-loop-member : goal.invariant-loop-member
invariant-loop-member l = first_number (is_of_side l.side) (chars l.name) l.class (private_members_of (drop l.member-index l.members)) ≡ first_number (is_of_side l.side) (chars l.name) l.class (private_members_of l.members)
