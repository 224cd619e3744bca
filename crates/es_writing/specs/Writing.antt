-- Writing a tree as a value (ESTree, off the table of kinds; `node`, the number of a node, is our own).
use Rattle.std.specs.Prelude.{◌≡◌, ℕ, List, [], ◌∷◌, ◌++◌, Bool, true, false, not, Option, Some, None, codes, String}
use Rattle.std.specs.Str.{encode_utf8_all}
use Rattle.std.specs.declared.alloc.Global.{Global}
use Rattle.serde_json.specs.Data.{Data, null, boolean as json_boolean, number, string as json_string, array, object, unsigned, Items, no_items, item, Members, no_members, put}
use Rattle.serde_json.specs.View.{members_view}
use Rattle.serde_json.specs.declared.value.Value.{Value}
use Rattle.es_base.specs.Tree.{Tree, Part, Parts, Node, end, more, child, absent, list, string, no_string, boolean, literal}
use Rattle.es_base.specs.Table.{Field, name_of, members_of}
use Rattle.es_base.specs.declared.kind.Kind.{Kind}
use Rattle.es_base.specs.declared.literal.LiteralValue.{LiteralValue}
use Rattle.es_base.specs.declared.literal.LiteralValue.TheVariants as value

-- a member of an object: its name and its value
abbrev pub Entry : Type 0
Entry = List ℕ × Data

abbrev pub entry : List ℕ → Data → List Entry → List Entry
entry name d es = (name, d) ∷ es

-- these members, with the entries put in one after another
abbrev pub put_all : Members → List Entry → Members
put_all ms [] = ms
put_all ms (e ∷ es) = put_all (put e.0 e.1 ms) es

-- these entries are put into an object in code, one after another
abbrev pub Puts : List (String Global × Value) → List (String Global × Value) → List Entry → Type 0
Puts old new es = members_view new ≡ put_all (members_view old) es

abbrev pub object_of : List Entry → Data
object_of es = object (put_all no_members es)

-- a string of a tree is a list of characters, one of JSON is a list of bytes
abbrev pub string_of : List ℕ → Data
string_of s = json_string (encode_utf8_all s)

abbrev pub number_of : ℕ → Data
number_of n = number (unsigned n)

-- ---- literals

abbrev pub raw_entry : Option (List ℕ) → List Entry
raw_entry None = []
raw_entry (Some raw) = entry (codes "raw") (string_of raw) []

abbrev pub boolean_string : Bool → List ℕ
boolean_string true = codes "true"
boolean_string false = codes "false"

abbrev pub regex_of : List ℕ → List ℕ → Data
regex_of pattern flags = object_of (entry (codes "pattern") (string_of pattern) (entry (codes "flags") (string_of flags) []))

abbrev pub literal_entries : LiteralValue → List Entry
literal_entries (value.String s raw) = entry (codes "value") (string_of s) (raw_entry raw)
literal_entries (value.Number raw) = entry (codes "value") null (entry (codes "raw") (string_of raw) [])
literal_entries (value.BigInt s) = entry (codes "value") null (entry (codes "bigint") (string_of s) [])
literal_entries (value.RegExp pattern flags) = entry (codes "value") null (entry (codes "regex") (regex_of pattern flags) [])
literal_entries (value.Boolean b) = entry (codes "value") (json_boolean b) (entry (codes "raw") (json_string (boolean_string b)) [])
literal_entries value.Null = entry (codes "value") null (entry (codes "raw") (json_string (codes "null")) [])

-- ---- what a node has beside its members

-- where the node stands in its source
abbrev pub span_entries : Option (ℕ × ℕ) → List Entry
span_entries None = []
span_entries (Some s) = entry (codes "start") (number_of s.0) (entry (codes "end") (number_of s.1) [])

-- a foreign node keeps its `type`
abbrev pub type_of : Kind → Parts → Data
type_of Kind.Foreign (more (string s) ps) = string_of s
type_of kind ps = json_string (name_of kind)

abbrev pub is_block : Parts → Bool
is_block (more params (more (child (Node Kind.BlockStatement id span semantic_id parts)) rest)) = true
is_block ps = false

-- members that nobody reads, since they follow from the others (ESTree)
abbrev pub more_entries : Kind → Parts → List Entry
more_entries Kind.UnaryExpression ps = entry (codes "prefix") (json_boolean true) []
more_entries Kind.ArrowFunctionExpression ps = entry (codes "expression") (json_boolean (not (is_block ps))) []
more_entries kind ps = []

-- the strings of a template element, of which the second may be absent
abbrev pub cooked_of : Part → Data
cooked_of (string s) = string_of s
cooked_of p = null

abbrev pub raw_of : Part → Data
raw_of (string s) = string_of s
raw_of p = null

abbrev pub strings_of : Part → Part → Data
strings_of raw cooked = object_of (entry (codes "raw") (raw_of raw) (entry (codes "cooked") (cooked_of cooked) []))

abbrev pub tail_entries : Parts → List Entry
tail_entries (more (boolean b) ps) = entry (codes "tail") (json_boolean b) []
tail_entries ps = []

-- the members of a node, by its kind; `es` are those of its row
abbrev pub kind_entries : Kind → Parts → List Entry → List Entry
kind_entries Kind.TemplateElement (more raw (more cooked ps)) es = entry (codes "value") (strings_of raw cooked) (tail_entries ps)
kind_entries Kind.Foreign ps es = []
kind_entries kind ps es = es

-- ---- nodes

abbrev pub node_of : Kind → ℕ → Option (ℕ × ℕ) → Parts → List Entry → Data
node_of kind id span ps es = object_of (entry (codes "type") (type_of kind ps) (entry (codes "node") (number_of id) (kind_entries kind ps es ++ (more_entries kind ps ++ span_entries span))))

abbrev mutual
  pub write : Tree → Data
  write (Node kind id span semantic_id ps) = node_of kind id span ps (write_fields (members_of kind) ps)

  -- the members of a row, one for one
  pub write_fields : List Field → Parts → List Entry
  write_fields fs end = []
  write_fields [] (more p ps) = []
  write_fields (f ∷ fs) (more p ps) = write_part f.name p ++ write_fields fs ps

  -- what stands at the member of this name
  pub write_part : List ℕ → Part → List Entry
  write_part name (child t) = entry name (write t) []
  write_part name absent = entry name null []
  write_part name (list ps) = entry name (array (write_items ps)) []
  write_part name (string s) = entry name (string_of s) []
  write_part name no_string = []
  write_part name (boolean b) = entry name (json_boolean b) []
  write_part name (literal v) = literal_entries v

  pub write_items : Parts → Items
  write_items end = no_items
  write_items (more p ps) = item (write_item p) (write_items ps)

  -- an item of a list, which is a node or none
  pub write_item : Part → Data
  write_item (child t) = write t
  write_item p = null
