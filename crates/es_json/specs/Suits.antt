-- What a spot asks of a tree beside its place (our own): a rest is the last of its list, and an export
-- without a source names references.
use Rattle.std.specs.Prelude.{◌≡◌, Bool, true, ◌&&◌}
use Rattle.es_base.specs.Tree.{Tree, Parts, Node, more, child}
use Rattle.es_base.specs.declared.kind.Kind.{Kind}
use Rattle.es_base.specs.declared.table.Place.{Place}
use Rattle.es_reading.specs.Kinds.{may_be_reference, may_be_name}
use Rattle.es_reading.specs.declared.spot.Spot.{Spot}

abbrev pub kind_suits : Spot → Kind → Bool
kind_suits spot Kind.RestElement = spot.last
kind_suits spot Kind.AssignmentTargetRest = spot.last
kind_suits spot Kind.IdentifierReference = may_be_reference spot.place spot.sourced
kind_suits spot Kind.IdentifierName = may_be_name spot.place spot.sourced
kind_suits spot kind = true

-- what a specifier of an export names
abbrev pub local_suits : Bool → Kind → Parts → Bool
local_suits sourced Kind.ExportSpecifier (more (child (Node kind id span semantic_id ps)) rest) = kind_suits (record { place = Place.ExportLocal; last = true; sourced = sourced }) kind
local_suits sourced kind ps = true

abbrev pub tree_suits : Spot → Tree → Bool
tree_suits spot (Node kind id span semantic_id ps) = kind_suits spot kind && local_suits spot.sourced kind ps

abbrev pub Suits : Spot → Tree → Type 0
Suits spot t = tree_suits spot t ≡ true
