-- Reading a value as a node: its tree, or the first fault in preorder (ESTree, off the table of kinds).
use Rattle.std.specs.Prelude.{ℕ, ◌+◌, List, [], ◌∷◌, ◌++◌, Bool, true, false, ◌&&◌, Option, Some, None, option_map, option_and_then, Result, Ok, Err, if◌then◌else◌, codes}
use Rattle.std.specs.Ordering.{nat_cmp, match_ordering}
use Rattle.std.specs.Cmp.Lexicographic.{slice_cmp}
use Rattle.serde_json.specs.Data.{Data, null, boolean as json_boolean, number, string as json_string, array, object, Items, no_items, item, Members, no_members, member}
use Rattle.serde_json.specs.Find.{get}
use Rattle.es_base.specs.Tree.{Tree, Part, Parts, Node, end, more, child, absent, list, boolean, literal, nullable_string}
use Rattle.es_base.specs.Conforms.{key_place}
use Rattle.es_base.specs.Preorder.{nodes_of_part}
use Rattle.es_base.specs.Table.{Field, members_of}
use Rattle.es_base.specs.declared.kind.Kind.{Kind}
use Rattle.es_base.specs.declared.table.Place.{Place}
use Rattle.es_base.specs.declared.table.Sort.{Sort}
use Rattle.es_base.specs.declared.literal.LiteralValue.{LiteralValue}
use Rattle.es_reading.specs.Fault.{Fault, float_at, Read, refused, bind}
use Rattle.es_reading.specs.Kinds.{kind_in}
use Rattle.es_reading.specs.Literals.{literal_of}
use Rattle.es_reading.specs.Look.{string_at, chars_at, is_true_at, is_string_at, is_null, is_there, u32_at, span_at}
use Rattle.es_reading.specs.Members.{are_good}
use Rattle.es_reading.specs.Unlisted.{floats_of, is_foreign_node}
use Rattle.es_reading.specs.declared.fault.What.{What}
use Rattle.es_reading.specs.declared.numbers.Numbers.{Numbers}
use Rattle.es_reading.specs.declared.spot.Parent.{Parent}
use Rattle.es_reading.specs.declared.spot.Slots.{Slots}
use Rattle.es_reading.specs.declared.spot.Spot.{Spot}

-- ---- the kind and the number of a node, which has the number n in preorder

abbrev pub told : ℕ → Result Kind What → Result Kind Fault
told n (Ok kind) = Ok kind
told n (Err what) = refused n what

abbrev pub kind_by : Option (List ℕ) → Data → Spot → ℕ → Result Kind Fault
kind_by None d spot n = refused n What.NotANode
kind_by (Some name) d spot n = told n (kind_in name spot d)

-- by its `type`, its place and its members
abbrev pub kind_of : Data → Spot → ℕ → Result Kind Fault
kind_of d spot n = kind_by (string_at (codes "type") d) d spot n

abbrev pub number_in : Numbers → Data → ℕ → Option ℕ
number_in Numbers.Preorder d n = Some n
number_in Numbers.Given d n = u32_at (codes "node") d

abbrev pub known : ℕ → Option ℕ → Result ℕ Fault
known n None = refused n What.BadMember
known n (Some id) = Ok id

-- where no member is a float or a bad one
abbrev pub number_of : Numbers → Data → Kind → ℕ → Result ℕ Fault
number_of numbers d kind n =
    if floats_of (members_of kind) d then Err (float_at n) else (if are_good kind d then known n (number_in numbers d n) else refused n What.BadMember)

-- ---- where the nodes below stand

-- a pattern is assigned by `=` alone
abbrev pub place_below : Kind → Data → Place → Place
place_below Kind.AssignmentExpression d Place.AssignmentTarget = if is_string_at (codes "operator") (codes "=") d then Place.AssignmentTarget else Place.SimpleAssignmentTarget
place_below kind d place = place

-- whether the nodes below are part of an export that has a source
abbrev pub sourced_below : Kind → Spot → Data → Bool
sourced_below Kind.ExportNamedDeclaration spot d = is_there (get (codes "source") d)
sourced_below Kind.ExportSpecifier spot d = spot.sourced
sourced_below kind spot d = false

abbrev pub parent_of : Kind → Spot → Data → Parent
parent_of kind spot d = record { kind = kind; sourced = sourced_below kind spot d }

abbrev pub below : Parent → Place → Spot
below parent place = record { place = place; last = true; sourced = parent.sourced }

abbrev pub slots_below : Parent → Bool → Place → Slots
slots_below parent holes place = record { place = place; holes = holes; sourced = parent.sourced }

abbrev pub slot : Slots → Bool → Spot
slot slots last = record { place = slots.place; last = last; sourced = slots.sourced }

-- ---- what stands at the members

abbrev pub literal_part : Option LiteralValue → Part
literal_part None = absent
literal_part (Some v) = literal v

-- a member that holds no nodes, of a value whose members are good
abbrev pub leaf_of : Data → List ℕ → Sort → Part
leaf_of d name Sort.Boolean = boolean (is_true_at name d)
leaf_of d name Sort.False = boolean false
leaf_of d name Sort.Literal = literal_part (literal_of d)
leaf_of d name Sort.Raw = nullable_string (option_and_then (chars_at (codes "raw")) (get (codes "value") d))
leaf_of d name Sort.Cooked = nullable_string (option_and_then (chars_at (codes "cooked")) (get (codes "value") d))
leaf_of d name sort = nullable_string (chars_at name d)

abbrev pub alone : Part → Result (Read Part) Fault
alone p = Ok (record { value = p; foreign = [] })

-- how a value is read: as a node, or as no node where it is null and may be; as a list of such
pub record Reader : Type 0 where
  pub item : Bool → Spot → ℕ → Result (Read Part) Fault
  pub items : Slots → ℕ → Result (Read Part) Fault

abbrev pub read_by : Option Reader → (Reader → Result (Read Part) Fault) → Result (Read Part) Fault
read_by None by = alone absent
read_by (Some r) by = by r

-- `find` gives the reader of what stands at a member
abbrev pub member_of : (List ℕ → Option Reader) → Data → Parent → List ℕ → Sort → ℕ → Result (Read Part) Fault
member_of find d parent name (Sort.Child p) n = read_by (find name) (λ r. r.item false (below parent (place_below parent.kind d p)) n)
member_of find d parent name (Sort.Nullable p) n = read_by (find name) (λ r. r.item true (below parent p) n)
member_of find d parent name (Sort.Key p) n = read_by (find name) (λ r. r.item false (below parent (key_place (is_true_at (codes "computed") d) p)) n)
member_of find d parent name (Sort.List p) n = read_by (find name) (λ r. r.items (slots_below parent false p) n)
member_of find d parent name (Sort.NonEmptyList p) n = read_by (find name) (λ r. r.items (slots_below parent false p) n)
member_of find d parent name (Sort.ListWithHoles p) n = read_by (find name) (λ r. r.items (slots_below parent true p) n)
member_of find d parent name sort n = alone (leaf_of d name sort)

-- one after another, each with the number that it has, and with those that follow
abbrev pub before : Read Part → Read Parts → Read Parts
before p ps = record { value = more p.value ps.value; foreign = p.foreign ++ ps.foreign }

abbrev pub each : {X : Type 0} → (X → List X → ℕ → Result (Read Part) Fault) → List X → ℕ → Result (Read Parts) Fault
each one [] n = Ok (record { value = end; foreign = [] })
each one (x ∷ xs) n = bind (one x xs n) (λ p. bind (each one xs (n + nodes_of_part p.value)) (λ ps. Ok (before p ps)))

-- ---- a node

abbrev pub own_number : Bool → ℕ → List ℕ
own_number true id = id ∷ []
own_number false id = []

abbrev pub node_of : Kind → Data → ℕ → Read Parts → Read Tree
node_of kind d id ps = record {
  value = Node kind id (span_at d) None ps.value;
  foreign = own_number (is_foreign_node kind d) id ++ ps.foreign;
}

abbrev pub members_in : (List ℕ → Option Reader) → Data → Parent → List Field → ℕ → Result (Read Parts) Fault
members_in find d parent = each (λ f fs. member_of find d parent f.name f.sort)

abbrev pub value_node : (List ℕ → Option Reader) → Numbers → Data → Spot → ℕ → Result (Read Tree) Fault
value_node find numbers d spot n =
    bind (kind_of d spot n) (λ kind. bind (number_of numbers d kind n) (λ id. bind (members_in find d (parent_of kind spot d) (members_of kind) (n + 1)) (λ ps. Ok (node_of kind d id ps))))

-- ---- a value

abbrev pub as_child : Result (Read Tree) Fault → Result (Read Part) Fault
as_child r = bind r (λ t. Ok (record { value = child t.value; foreign = t.foreign }))

abbrev pub as_list : Result (Read Parts) Fault → Result (Read Part) Fault
as_list r = bind r (λ ps. Ok (record { value = list ps.value; foreign = ps.foreign }))

abbrev pub is_last : {X : Type 0} → List X → Bool
is_last [] = true
is_last (x ∷ xs) = false

abbrev pub item_of : Bool → Data → Result (Read Tree) Fault → Result (Read Part) Fault
item_of nulls d r = if nulls && is_null d then alone absent else as_child r

abbrev pub items_of : Slots → List Reader → ℕ → Result (Read Part) Fault
items_of slots rs n = as_list (each (λ r rest. r.item slots.holes (slot slots (is_last rest))) rs n)

abbrev pub reader : Data → (Spot → ℕ → Result (Read Tree) Fault) → List Reader → Reader
reader d node rs = record {
  item = λ nulls spot n. item_of nulls d (node spot n);
  items = λ slots n. items_of slots rs n;
}

unfoldable mutual
  -- `n` is the number of the node in preorder
  pub read : Numbers → Data → Spot → ℕ → Result (Read Tree) Fault
  read numbers null spot n = refused n What.NotANode
  read numbers (json_boolean b) spot n = refused n What.NotANode
  read numbers (number b) spot n = refused n What.NotANode
  read numbers (json_string s) spot n = refused n What.NotANode
  read numbers (array ds) spot n = refused n What.NotANode
  read numbers (object ms) spot n = value_node (find numbers ms) numbers (object ms) spot n

  -- the readers of the items
  pub readers_in : Numbers → Data → List Reader
  readers_in numbers null = []
  readers_in numbers (json_boolean b) = []
  readers_in numbers (number b) = []
  readers_in numbers (json_string s) = []
  readers_in numbers (array ds) = readers numbers ds
  readers_in numbers (object ms) = []

  pub readers : Numbers → Items → List Reader
  readers numbers no_items = []
  readers numbers (item d ds) = reader d (read numbers d) (readers_in numbers d) ∷ readers numbers ds

  -- the reader of what stands at a member
  pub find : Numbers → Members → List ℕ → Option Reader
  find numbers no_members key = None
  find numbers (member l d ms) key = match_ordering (slice_cmp nat_cmp key l) (find numbers ms key) (Some (reader d (read numbers d) (readers_in numbers d))) (find numbers ms key)

-- how a value is read
abbrev pub reader_of : Numbers → Data → Reader
reader_of numbers d = reader d (read numbers d) (readers_in numbers d)

abbrev pub finds : Numbers → Data → List ℕ → Option Reader
finds numbers d key = option_map (reader_of numbers) (get key d)

-- where a program stands
abbrev pub root : Spot
root = record { place = Place.Program; last = true; sourced = false }
