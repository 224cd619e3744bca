-- Private names in code, as definitions see them.
use Rattle.std.specs.Prelude.{◌≡◌, List, [], ◌∷◌, ◌++◌, map, Option, true, false}
use Rattle.std.specs.Str.{chars}
use Rattle.es_name_set.specs.Names.{HaveSame}
use Rattle.es_steps.specs.PrivateNames as members
use Rattle.es_steps.specs.PrivateNames.{a_field, a_method, a_getter, a_setter}
use Rattle.es_steps.specs.Values.{String}
use Rattle.es_validity.specs.Faults.{FaultAt, fault_at, first_with}
use Rattle.es_validity.specs.Privates.{spellings, taken_for, duplicates}
use Rattle.es_validity.specs.declared.fault.Cause.{Cause}
use Rattle.es_validity.specs.declared.privates.Declared.{Declared}
use Rattle.es_validity.specs.declared.privates.PrivateKind.{PrivateKind}
use Rattle.es_validity.specs.declared.privates.PrivateMember.{PrivateMember}
use Rattle.es_validity.specs.declared.privates.Reach as reach
use Rattle.es_validity.specs.declared.privates.Reach.{Reach}

abbrev pub kind_in : PrivateKind → members.PrivateKind
kind_in PrivateKind.Field = a_field
kind_in PrivateKind.Method = a_method
kind_in PrivateKind.Getter = a_getter
kind_in PrivateKind.Setter = a_setter

abbrev pub member_of : PrivateMember → members.PrivateMember
member_of x = record { number = x.node.0; spelling = chars x.name.now; class = 0; is_static = x.is_static; kind = kind_in x.kind }

abbrev pub reach_of : Reach → List String
reach_of reach.None = []
reach_of (reach.Class' names at outer) = names.now ++ reach_of outer

-- what is known of the members of a class that were met so far
pub record Holds (declared : Declared) (earlier : List members.PrivateMember) : Type 0 where
  pub all : HaveSame declared.all (spellings earlier)
  pub no_getter : HaveSame declared.no_getter (taken_for a_getter false earlier)
  pub no_static_getter : HaveSame declared.no_static_getter (taken_for a_getter true earlier)
  pub no_setter : HaveSame declared.no_setter (taken_for a_setter false earlier)
  pub no_static_setter : HaveSame declared.no_static_setter (taken_for a_setter true earlier)

abbrev pub before : List members.PrivateMember → List members.PrivateMember → List members.PrivateMember
before earlier [] = earlier
before earlier (x ∷ xs) = before (x ∷ earlier) xs

-- these members were met behind earlier ones: they are known, and those that are declared again were counted
pub record AddsMembers (declared : Declared) (earlier : List members.PrivateMember) (first next : Option FaultAt) (xs : List members.PrivateMember) : Type 0 where
  pub holds : Holds declared (before earlier xs)
  pub faults : next ≡ first_with first (map (fault_at Cause.DuplicatePrivate) (duplicates earlier xs))
