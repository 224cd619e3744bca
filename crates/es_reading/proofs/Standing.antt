-- What is known of a node that is read, and of a list.
use Rattle.std.proofs.Common.{◌≡◌, Bool, true, ◌&&◌}
use Rattle.es_base.specs.Tree.{Tree, Part, Parts, Node, end, more, child}
use Rattle.es_base.specs.Conforms.{conforms, items_conform, is_rest}
use Rattle.es_base.specs.declared.kind.Kind.{Kind}
use Rattle.es_base.specs.declared.table.Place.{Place}
use Rattle.es_reading.specs.Kinds.{may_be_reference, may_be_name}
use Rattle.es_reading.specs.declared.spot.Slots.{Slots}
use Rattle.es_reading.specs.declared.spot.Spot.{Spot}

-- a local name of an export with a source is a name, and else a reference
abbrev pub local_fits : Kind → Place → Bool → Bool
local_fits Kind.IdentifierReference place sourced = may_be_reference place sourced
local_fits Kind.IdentifierName place sourced = may_be_name place sourced
local_fits kind place sourced = true

abbrev pub kind_in_tree : Tree → Kind
kind_in_tree (Node kind id span semantic_id parts) = kind

abbrev pub specifier_fits : Bool → Tree → Bool
specifier_fits sourced (Node Kind.ExportSpecifier id span semantic_id (more (child t) rest)) = local_fits (kind_in_tree t) Place.ExportLocal sourced
specifier_fits sourced t = true

abbrev pub specifier_in : Bool → Part → Bool
specifier_in sourced (child t) = specifier_fits sourced t
specifier_in sourced p = true

abbrev pub specifiers_fit : Bool → Parts → Bool
specifiers_fit sourced end = true
specifiers_fit sourced (more p ps) = specifier_in sourced p && specifiers_fit sourced ps

pub record NodeStands (spot : Spot) (t : Tree) : Type 0 where
  pub conforming : conforms spot.place t ≡ true
  pub rest_last : is_rest (child t) ≡ true → spot.last ≡ true
  pub local_name : local_fits (kind_in_tree t) spot.place spot.sourced ≡ true
  pub specifier : specifier_fits spot.sourced t ≡ true

pub record ListStands (slots : Slots) (ps : Parts) : Type 0 where
  pub conforming : items_conform slots.holes slots.place ps ≡ true
  pub specifiers : specifiers_fit slots.sourced ps ≡ true
