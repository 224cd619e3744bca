-- Private members in code, as definitions see them.
use Rattle.std.specs.Prelude.{List, map}
use Rattle.std.specs.Str.{chars}
use Rattle.es_steps.specs.PrivateNames as spec
use Rattle.es_validity.specs.Reached.{kind_in}
use Rattle.es_seen_names.specs.declared.private_member.PrivateMember.{PrivateMember}

abbrev pub private_member_of : PrivateMember → spec.PrivateMember
private_member_of x = record { number = x.node; spelling = chars x.name.now; class = x.class; is_static = x.is_static; kind = kind_in x.kind }

abbrev pub private_members_of : List PrivateMember → List spec.PrivateMember
private_members_of xs = map private_member_of xs
