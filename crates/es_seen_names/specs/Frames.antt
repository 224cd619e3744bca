-- What is seen at a place, from the nearest scope or class body outwards.
use Rattle.std.specs.Prelude.{List, [], ◌++◌}
use Rattle.es_steps.specs.PrivateNames as spec_privates
use Rattle.es_steps.specs.Scopes as spec
use Rattle.es_seen_names.specs.Declarations.{declarations}
use Rattle.es_seen_names.specs.PrivateMembers.{private_members_of}
use Rattle.es_seen_names.specs.declared.names.Names as names
use Rattle.es_seen_names.specs.declared.names.Names.{Names}
use Rattle.es_seen_names.specs.declared.privates.Privates as privates
use Rattle.es_seen_names.specs.declared.privates.Privates.{Privates}

abbrev pub names_in : Names → List spec.Declaration
names_in names.Outside = []
names_in (names.Inside' frame at outer) = declarations frame.now.list.items ++ names_in outer

abbrev pub privates_in : Privates → List spec_privates.PrivateMember
privates_in privates.Outside = []
privates_in (privates.Inside' xs at outer) = private_members_of xs.now ++ privates_in outer
