-- The members of the object of a node, in the order of their bytes, and what stands at each (ESTree, off the table of kinds).
use Rattle.std.specs.Prelude.{ℕ, zero, suc, List, [], ◌∷◌, ◌++◌, true, map, not, Option, Some, None, option_map, option_and_then, codes}
use Rattle.std.specs.Cmp.Lexicographic.{slice_cmp}
use Rattle.std.specs.Ordering.{nat_cmp, match_ordering}
use Rattle.json.specs.Token.{Token}
use Rattle.json.specs.Tree.{json_tokens}
use Rattle.serde_json.specs.Data.{Data, null, boolean as json_boolean, string as json_string, array}
use Rattle.serde_json.specs.Written.{outline}
use Rattle.es_base.specs.Tree.{Tree, Part, Parts, Node, end, more, child, absent, list, string, no_string, boolean, literal}
use Rattle.es_base.specs.Table.{Field, members_of}
use Rattle.es_base.specs.Shape.{shape_number}
use Rattle.es_base.specs.declared.diagnostic.Diagnostic.{Diagnostic}
use Rattle.es_base.specs.declared.kind.Kind.{Kind}
use Rattle.es_base.specs.declared.ledger.GeneratedKind.{GeneratedKind}
use Rattle.es_base.specs.declared.ledger.LedgerEntry.{LedgerEntry}
use Rattle.es_base.specs.declared.literal.LiteralValue.{LiteralValue}
use Rattle.es_base.specs.declared.literal.LiteralValue.TheVariants as value
use Rattle.es_base.specs.declared.shape.Shape.{Shape}
use Rattle.es_writing.specs.Lowered.{entry_value, items_of, warning_value}
use Rattle.es_writing.specs.Writing.{string_of, number_of, regex_of, boolean_string, type_of, is_block, strings_of, write, write_items, write_item}
use Rattle.es_writing.specs.declared.slots.Slot.{Slot}

-- ---- names

-- the name of the member at a place
abbrev pub field_at : ℕ → List Field → List ℕ
field_at n [] = []
field_at zero (f ∷ fs) = f.name
field_at (suc n) (f ∷ fs) = field_at n fs

abbrev pub name_in : Kind → Slot → List ℕ
name_in kind Slot.Type = codes "type"
name_in kind Slot.Number = codes "node"
name_in kind Slot.Start = codes "start"
name_in kind Slot.End = codes "end"
name_in kind (Slot.At n) = field_at n (members_of kind)
name_in kind Slot.Prefix = codes "prefix"
name_in kind Slot.Expression = codes "expression"
name_in kind Slot.Value = codes "value"
name_in kind Slot.Raw = codes "raw"
name_in kind Slot.BigInt = codes "bigint"
name_in kind Slot.RegExp = codes "regex"
name_in kind Slot.Strings = codes "value"
name_in kind Slot.Tail = codes "tail"
name_in kind Slot.Generated = codes "generated"
name_in kind Slot.Warnings = codes "warnings"
name_in kind Slot.Outside = codes "outside"

-- ---- the order

-- the members of a row, from the place n on
abbrev pub row_from : ℕ → List Field → List Slot
row_from n [] = []
row_from n (f ∷ fs) = Slot.At n ∷ row_from (suc n) fs

abbrev pub row_slots : Kind → List Slot
row_slots Kind.Literal = Slot.Value ∷ Slot.Raw ∷ Slot.BigInt ∷ Slot.RegExp ∷ []
row_slots Kind.TemplateElement = Slot.Strings ∷ Slot.Tail ∷ []
row_slots Kind.Foreign = []
row_slots kind = row_from 0 (members_of kind)

abbrev pub more_slots : Kind → List Slot
more_slots Kind.UnaryExpression = Slot.Prefix ∷ []
more_slots Kind.ArrowFunctionExpression = Slot.Expression ∷ []
more_slots kind = []

-- as they are put in, which is not their order
abbrev pub all_slots : Kind → List Slot
all_slots kind = Slot.Type ∷ Slot.Number ∷ (row_slots kind ++ (more_slots kind ++ (Slot.Start ∷ Slot.End ∷ [])))

abbrev pub list_slots : List Slot
list_slots = Slot.Generated ∷ Slot.Warnings ∷ Slot.Outside ∷ []

-- a member put before the first whose name has greater bytes
abbrev pub insert_slot : Kind → Slot → List Slot → List Slot
insert_slot kind s [] = s ∷ []
insert_slot kind s (t ∷ ts) = match_ordering (slice_cmp nat_cmp (name_in kind s) (name_in kind t)) (s ∷ t ∷ ts) (s ∷ ts) (t ∷ insert_slot kind s ts)

abbrev pub insert_slots : Kind → List Slot → List Slot → List Slot
insert_slots kind ts [] = ts
insert_slots kind ts (s ∷ ss) = insert_slots kind (insert_slot kind s ts) ss

abbrev pub slots_of : Kind → List Slot
slots_of kind = insert_slots kind [] (all_slots kind)

abbrev pub program_slots : List Slot
program_slots = insert_slots Kind.Program [] (all_slots Kind.Program ++ list_slots)

-- ---- what stands at a member, if it is written

abbrev pub data_of : Part → Option Data
data_of (child t) = Some (write t)
data_of absent = Some null
data_of (list ps) = Some (array (write_items ps))
data_of (string s) = Some (string_of s)
data_of no_string = None
data_of (boolean b) = Some (json_boolean b)
data_of (literal v) = None

abbrev pub data_at : ℕ → Parts → Option Data
data_at n end = None
data_at zero (more p ps) = data_of p
data_at (suc n) (more p ps) = data_at n ps

abbrev pub value_of : LiteralValue → Option Data
value_of (value.String s raw) = Some (string_of s)
value_of (value.Boolean b) = Some (json_boolean b)
value_of v = Some null

abbrev pub raw_of : LiteralValue → Option Data
raw_of (value.String s raw) = option_map string_of raw
raw_of (value.Number raw) = Some (string_of raw)
raw_of (value.Boolean b) = Some (json_string (boolean_string b))
raw_of value.Null = Some (json_string (codes "null"))
raw_of v = None

abbrev pub bigint_of : LiteralValue → Option Data
bigint_of (value.BigInt s) = Some (string_of s)
bigint_of v = None

abbrev pub regexp_of : LiteralValue → Option Data
regexp_of (value.RegExp pattern flags) = Some (regex_of pattern flags)
regexp_of v = None

abbrev pub literal_in : Parts → Option LiteralValue
literal_in (more (literal v) ps) = Some v
literal_in ps = None

abbrev pub strings_in : Parts → Option Data
strings_in (more raw (more cooked ps)) = Some (strings_of raw cooked)
strings_in ps = None

abbrev pub last_of : Part → Option Data
last_of (boolean b) = Some (json_boolean b)
last_of p = None

abbrev pub tail_in : Parts → Option Data
tail_in (more raw (more cooked (more last ps))) = last_of last
tail_in ps = None

abbrev pub slot_data : Tree → Slot → Option Data
slot_data (Node kind id span semantic_id ps) Slot.Type = Some (type_of kind ps)
slot_data (Node kind id span semantic_id ps) Slot.Number = Some (number_of id)
slot_data (Node kind id span semantic_id ps) Slot.Start = option_map (λ s. number_of s.0) span
slot_data (Node kind id span semantic_id ps) Slot.End = option_map (λ s. number_of s.1) span
slot_data (Node kind id span semantic_id ps) (Slot.At n) = data_at n ps
slot_data (Node kind id span semantic_id ps) Slot.Prefix = Some (json_boolean true)
slot_data (Node kind id span semantic_id ps) Slot.Expression = Some (json_boolean (not (is_block ps)))
slot_data (Node kind id span semantic_id ps) Slot.Value = option_and_then value_of (literal_in ps)
slot_data (Node kind id span semantic_id ps) Slot.Raw = option_and_then raw_of (literal_in ps)
slot_data (Node kind id span semantic_id ps) Slot.BigInt = option_and_then bigint_of (literal_in ps)
slot_data (Node kind id span semantic_id ps) Slot.RegExp = option_and_then regexp_of (literal_in ps)
slot_data (Node kind id span semantic_id ps) Slot.Strings = strings_in ps
slot_data (Node kind id span semantic_id ps) Slot.Tail = tail_in ps
slot_data t s = None

-- of a lowered program, with its names, warnings and shapes
abbrev pub lowered_data : Tree → List LedgerEntry → List Diagnostic → List Shape → Slot → Option Data
lowered_data t names warnings shapes Slot.Generated = Some (array (items_of (map entry_value names)))
lowered_data t names warnings shapes Slot.Warnings = Some (array (items_of (map warning_value warnings)))
lowered_data t names warnings shapes Slot.Outside = Some (array (items_of (map (λ s. number_of (shape_number s)) shapes)))
lowered_data t names warnings shapes s = slot_data t s

-- ---- tokens

abbrev pub data_tokens : Data → List Token
data_tokens d = json_tokens (outline d)

-- a member with its name, if it is written
abbrev pub member_tokens : List ℕ → Option Data → List Token
member_tokens name None = []
member_tokens name (Some d) = Token.key name ∷ data_tokens d

abbrev pub slots_tokens : Kind → (Slot → Option Data) → List Slot → List Token
slots_tokens kind stands [] = []
slots_tokens kind stands (s ∷ ss) = member_tokens (name_in kind s) (stands s) ++ slots_tokens kind stands ss

-- the tokens of nodes, one after another
abbrev pub nodes_tokens : Parts → List Token
nodes_tokens end = []
nodes_tokens (more p ps) = data_tokens (write_item p) ++ nodes_tokens ps

-- ---- the lists of a lowered program

-- the class that a name stands for, or the private name
abbrev pub class_of : GeneratedKind → Option ℕ
class_of (GeneratedKind.ClassTemp n) = Some n.0
class_of (GeneratedKind.Brand n) = Some n.0
class_of (GeneratedKind.SuperFn n) = Some n.0
class_of (GeneratedKind.Private n) = Some n.0
class_of kind = None

abbrev pub member_of : GeneratedKind → Option ℕ
member_of (GeneratedKind.WeakMap n) = Some n.0
member_of (GeneratedKind.StaticField n) = Some n.0
member_of (GeneratedKind.Method n) = Some n.0
member_of (GeneratedKind.LooseKey n) = Some n.0
member_of kind = None
