-- How a node stands where it does (our own; the places are those of the table of kinds).
use Rattle.std.specs.Prelude.{ℕ, zero, suc, List, [], ◌∷◌, Bool, true, false, codes}
use Rattle.es_base.specs.Conforms.{boolean_at}
use Rattle.es_base.specs.Table.{Field, members_of}
use Rattle.es_base.specs.Tree.{Parts}
use Rattle.es_base.specs.declared.kind.Kind.{Kind}
use Rattle.es_base.specs.declared.table.Place.{Place}
use Rattle.es_base.specs.declared.table.Sort.{Sort}
use Rattle.es_visit.specs.declared.roles.Role.{Role}

abbrev pub role_in : Place → Role
role_in Place.Statement = Role.Statement
role_in Place.Expression = Role.Expression
role_in Place.ExpressionOrSuper = Role.Expression
role_in Place.ExpressionOrSpread = Role.Expression
role_in Place.ArrowBody = Role.Expression
role_in Place.ForInit = Role.Expression
role_in Place.ExportDefault = Role.Expression
role_in Place.SimpleAssignmentTarget = Role.Target
role_in Place.AssignmentTarget = Role.Target
role_in Place.AssignmentTargetMaybeDefault = Role.Target
role_in Place.TargetOrRest = Role.Target
role_in Place.ForLeft = Role.Target
role_in place = Role.Other

-- a key stands as an expression where it is computed
abbrev pub key_role : Bool → Place → Role
key_role true place = Role.Expression
key_role false place = role_in place

abbrev pub role_of : Bool → Sort → Role
role_of computed (Sort.Child place) = role_in place
role_of computed (Sort.Nullable place) = role_in place
role_of computed (Sort.Key place) = key_role computed place
role_of computed (Sort.List place) = role_in place
role_of computed (Sort.NonEmptyList place) = role_in place
role_of computed (Sort.ListWithHoles place) = role_in place
role_of computed sort = Role.Other

-- the role of what stands at a member
abbrev pub role_at : Bool → List Field → ℕ → Role
role_at computed [] at = Role.Other
role_at computed (f ∷ fs) zero = role_of computed f.sort
role_at computed (f ∷ fs) (suc at) = role_at computed fs at

abbrev pub is_computed : Kind → Parts → Bool
is_computed kind parts = boolean_at (codes "computed") (members_of kind) parts

abbrev pub is_static : Kind → Parts → Bool
is_static kind parts = boolean_at (codes "static") (members_of kind) parts
