-- Which kind a value is: its `type` names some kinds, its place and its members choose between them.
use Rattle.std.specs.Prelude.{ℕ, List, [], ◌∷◌, Bool, true, false, not, ◌&&◌, Result, Ok, Err, if◌then◌else◌, nat_eq, length, bytes_eq, codes}
use Rattle.std.specs.Str.{chars}
use Rattle.serde_json.specs.Data.{Data}
use Rattle.es_base.specs.Conforms.{is_foreign_name, is_target_place}
use Rattle.es_base.specs.Table.{name_of, stands_in, kinds}
use Rattle.es_base.specs.declared.kind.Kind.{Kind}
use Rattle.es_base.specs.declared.table.Place.{Place}
use Rattle.es_reading.specs.Literals.{form_in, may_be_key}
use Rattle.es_reading.specs.Look.{is_node_at, is_string_at, is_true_at}
use Rattle.es_reading.specs.declared.fault.What.{What}
use Rattle.es_reading.specs.declared.spot.Spot.{Spot}

-- the kinds that have this name in ESTree; the name is one of bytes
abbrev pub is_named : List ℕ → Kind → Bool
is_named name Kind.Foreign = is_foreign_name (chars name)
is_named name kind = bytes_eq (name_of kind) name

-- a name has the length of that of its kind, in bytes
abbrev pub could_be : ℕ → Kind → Bool
could_be len Kind.Foreign = true
could_be len kind = nat_eq len (length (name_of kind))

-- a member with a private name
abbrev pub has_private_property : Data → Bool
has_private_property d = is_node_at (codes "property") (codes "PrivateIdentifier") d && not (is_true_at (codes "computed") d)

-- `#x in o`
abbrev pub is_private_in : Data → Bool
is_private_in d = is_node_at (codes "left") (codes "PrivateIdentifier") d && is_string_at (codes "operator") (codes "in") d

-- what is assigned to is no optional member
abbrev pub may_be_target : Place → Data → Bool
may_be_target place d = not (is_target_place place && is_true_at (codes "optional") d)

abbrev pub may_be_literal : Place → Data → Bool
may_be_literal Place.PropertyKey d = may_be_key (form_in d)
may_be_literal Place.ClassKey d = may_be_key (form_in d)
may_be_literal place d = true

-- an export without a source names a reference
abbrev pub may_be_reference : Place → Bool → Bool
may_be_reference Place.ExportLocal sourced = not sourced
may_be_reference place sourced = true

abbrev pub may_be_name : Place → Bool → Bool
may_be_name Place.ExportLocal sourced = sourced
may_be_name place sourced = true

-- what a kind asks of its spot and its members
abbrev pub suits : Spot → Data → Kind → Bool
suits spot d Kind.PrivateField = has_private_property d && may_be_target spot.place d
suits spot d Kind.MemberExpression = not (has_private_property d) && may_be_target spot.place d
suits spot d Kind.PrivateIn = is_private_in d
suits spot d Kind.BinaryExpression = not (is_private_in d)
suits spot d Kind.IdentifierReference = may_be_reference spot.place spot.sourced
suits spot d Kind.IdentifierName = may_be_name spot.place spot.sourced
suits spot d Kind.Literal = may_be_literal spot.place d
suits spot d Kind.RestElement = spot.last
suits spot d Kind.AssignmentTargetRest = spot.last
suits spot d kind = true

abbrev pub may_stand : Spot → Data → Kind → Bool
may_stand spot d kind = stands_in spot.place kind && suits spot d kind

-- the first kind of this name that may stand there; `known` where one of this name came before
abbrev pub kind_among : List ℕ → Spot → Data → Bool → List Kind → Result Kind What
kind_among name spot d known [] = if known then Err What.WrongPlace else Err What.UnknownKind
kind_among name spot d known (k ∷ ks) =
    if is_named name k then (if may_stand spot d k then Ok k else kind_among name spot d true ks) else kind_among name spot d known ks

abbrev pub kind_in : List ℕ → Spot → Data → Result Kind What
kind_in name spot d = kind_among name spot d false kinds
