-- Conformity: what a tree of the table's grammar is (ESTree up to ES2022, read off the table of kinds).
-- Early errors of ECMA-262 are no part of it.
use Rattle.std.specs.Prelude.{ℕ, ◌+◌, nat_eq, nat_le, List, [], ◌∷◌, Bool, true, false, not, ◌&&◌, ◌||◌, IsTrue, codes, bytes_eq}
use Rattle.es_base.specs.Tree.{Tree, Part, Parts, Node, end, more, child, absent, list, string, no_string, boolean, literal}
use Rattle.es_base.specs.Table.{Field, members_of, words_of, stands_in}
use Rattle.es_base.specs.declared.kind.Kind.{Kind}
use Rattle.es_base.specs.declared.table.Place.{Place}
use Rattle.es_base.specs.declared.table.Sort.{Sort}
use Rattle.es_base.specs.declared.literal.LiteralValue.{LiteralValue}
use Rattle.es_base.specs.declared.literal.LiteralValue.TheVariants as value

abbrev pub is_among : List ℕ → List (List ℕ) → Bool
is_among s [] = false
is_among s (w ∷ ws) = bytes_eq w s || is_among s ws

abbrev pub begins_with : List ℕ → List ℕ → Bool
begins_with [] s = true
begins_with (c ∷ cs) [] = false
begins_with (c ∷ cs) (d ∷ ds) = nat_eq c d && begins_with cs ds

-- names of nodes outside the table that are kept as leaves
abbrev pub is_foreign_name : List ℕ → Bool
is_foreign_name s = begins_with (codes "TS") s || (begins_with (codes "JSX") s || is_among s (codes "Decorator" ∷ codes "AccessorProperty" ∷ []))

-- a number is known by a source text that begins with a digit or a full stop
abbrev pub is_number_string : List ℕ → Bool
is_number_string [] = false
is_number_string (c ∷ cs) = nat_eq c 46 || (nat_le 48 c && nat_le c 57)

abbrev pub literal_conforms : LiteralValue → Bool
literal_conforms (value.Number raw) = is_number_string raw
literal_conforms _ = true

-- a literal that may be a key that is not computed: a string, a number or a bigint
abbrev pub is_key_literal : Parts → Bool
is_key_literal (more (literal (value.String s raw)) rest) = true
is_key_literal (more (literal (value.Number raw)) rest) = true
is_key_literal (more (literal (value.BigInt s)) rest) = true
is_key_literal _ = false

-- the boolean at the member of this name
abbrev pub boolean_at : List ℕ → List Field → Parts → Bool
boolean_at name (f ∷ fs) (more (boolean b) ps) = (bytes_eq f.name name && b) || boolean_at name fs ps
boolean_at name (f ∷ fs) (more p ps) = boolean_at name fs ps
boolean_at name [] ps = false
boolean_at name fs end = false

abbrev pub is_target_place : Place → Bool
is_target_place Place.SimpleAssignmentTarget = true
is_target_place Place.AssignmentTarget = true
is_target_place Place.AssignmentTargetMaybeDefault = true
is_target_place Place.TargetOrRest = true
is_target_place Place.ForLeft = true
is_target_place _ = false

-- what a place asks of a node beside its kind: the literal of a key is no regular expression, boolean
-- or null, and what is assigned to is no optional member
abbrev pub place_rule : Place → Kind → Parts → Bool
place_rule Place.PropertyKey Kind.Literal ps = is_key_literal ps
place_rule Place.ClassKey Kind.Literal ps = is_key_literal ps
place_rule place kind ps = not (is_target_place place && boolean_at (codes "optional") (members_of kind) ps)

abbrev pub item_count : Parts → ℕ
item_count end = 0
item_count (more p ps) = item_count ps + 1

abbrev pub is_pattern_child : Part → Bool
is_pattern_child (child (Node Kind.ObjectAssignmentTarget id span semantic_id parts)) = true
is_pattern_child (child (Node Kind.ArrayAssignmentTarget id span semantic_id parts)) = true
is_pattern_child _ = false

-- the local names of the specifiers of an export: references, unless the export has a source
abbrev pub local_rule : Part → Part → Bool
local_rule (child (Node Kind.ExportSpecifier id span semantic_id (more (child (Node Kind.IdentifierReference i s m ps)) rest))) absent = true
local_rule (child (Node Kind.ExportSpecifier id span semantic_id (more (child (Node Kind.IdentifierReference i s m ps)) rest))) source = false
local_rule (child (Node Kind.ExportSpecifier id span semantic_id (more (child (Node Kind.IdentifierName i s m ps)) rest))) absent = false
local_rule specifier source = true

abbrev pub local_rules : Parts → Part → Bool
local_rules end source = true
local_rules (more p ps) source = local_rule p source && local_rules ps source

-- what a kind asks of its parts together: a template has one string more than expressions, a pattern is
-- assigned by `=` alone, and an export with a source names no references
abbrev pub kind_rule : Kind → Parts → Bool
kind_rule Kind.TemplateLiteral (more (list quasis) (more (list expressions) end)) = nat_eq (item_count quasis) (item_count expressions + 1)
kind_rule Kind.AssignmentExpression (more (string operator) (more left rest)) = bytes_eq operator (codes "=") || not (is_pattern_child left)
kind_rule Kind.ExportNamedDeclaration (more declaration (more (list specifiers) (more source end))) = local_rules specifiers source
kind_rule kind ps = true

-- a rest element is the last of its list
abbrev pub is_rest : Part → Bool
is_rest (child (Node Kind.RestElement id span semantic_id parts)) = true
is_rest (child (Node Kind.AssignmentTargetRest id span semantic_id parts)) = true
is_rest _ = false

abbrev pub is_end : Parts → Bool
is_end end = true
is_end (more p ps) = false

abbrev pub no_members : List Field → Bool
no_members [] = true
no_members (f ∷ fs) = false

abbrev pub key_place : Bool → Place → Place
key_place true place = Place.Expression
key_place false place = place

abbrev mutual
  -- a node that may stand at this place, with all below it
  pub conforms : Place → Tree → Bool
  conforms place (Node kind id span semantic_id parts) = stands_in place kind && (place_rule place kind parts && (kind_rule kind parts && parts_conform (boolean_at (codes "computed") (members_of kind) parts) (members_of kind) parts))

  -- the parts are those of the members, one for one
  pub parts_conform : Bool → List Field → Parts → Bool
  parts_conform computed fs end = no_members fs
  parts_conform computed [] (more p ps) = false
  parts_conform computed (f ∷ fs) (more p ps) = part_conforms computed f.sort p && parts_conform computed fs ps

  pub part_conforms : Bool → Sort → Part → Bool
  part_conforms computed (Sort.Child place) (child t) = conforms place t
  part_conforms computed (Sort.Nullable place) (child t) = conforms place t
  part_conforms computed (Sort.Key place) (child t) = conforms (key_place computed place) t
  part_conforms computed sort (child t) = false
  part_conforms computed (Sort.Nullable place) absent = true
  part_conforms computed sort absent = false
  part_conforms computed (Sort.List place) (list ps) = items_conform false place ps
  part_conforms computed (Sort.NonEmptyList place) (list ps) = not (is_end ps) && items_conform false place ps
  part_conforms computed (Sort.ListWithHoles place) (list ps) = items_conform true place ps
  part_conforms computed sort (list ps) = false
  part_conforms computed Sort.Name (string s) = not (bytes_eq s [])
  part_conforms computed Sort.NullableString (string s) = true
  part_conforms computed (Sort.Word words) (string s) = is_among s (words_of words)
  part_conforms computed Sort.Raw (string s) = true
  part_conforms computed Sort.Cooked (string s) = true
  part_conforms computed Sort.Type (string s) = is_foreign_name s
  part_conforms computed sort (string s) = false
  part_conforms computed Sort.NullableString no_string = true
  part_conforms computed Sort.Cooked no_string = true
  part_conforms computed sort no_string = false
  part_conforms computed Sort.Boolean (boolean b) = true
  part_conforms computed Sort.False (boolean b) = not b
  part_conforms computed sort (boolean b) = false
  part_conforms computed Sort.Literal (literal v) = literal_conforms v
  part_conforms computed sort (literal v) = false

  -- the items of a list, of which some may be absent
  pub items_conform : Bool → Place → Parts → Bool
  items_conform holes place end = true
  items_conform holes place (more p ps) = item_conforms holes place p && ((not (is_rest p) || is_end ps) && items_conform holes place ps)

  pub item_conforms : Bool → Place → Part → Bool
  item_conforms holes place (child t) = conforms place t
  item_conforms holes place absent = holes
  item_conforms holes place _ = false

abbrev pub Conforms : Tree → Place → Type 0
Conforms t place = IsTrue (conforms place t)
