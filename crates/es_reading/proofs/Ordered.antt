-- Where the numbers are counted, the nodes of a tree that is read have the numbers of preorder.
use Rattle.std.proofs.Common.{◌≡◌, refl, sym, ap, ap₂, ◌∙◌, subst, ℕ, ◌+◌, List, [], ◌∷◌, Bool, true, false, ◌&&◌, Option, Some, None, option_map, Ok, if◌then◌else◌}
use Rattle.std.specs.Prelude.{codes}
use Rattle.serde_json.specs.Data.{Data, Items, no_items, item}
use Rattle.serde_json.specs.Find.{get}
use Rattle.es_base.specs.Tree.{Tree, Part, Parts, Node, more, child, absent, list, nullable_string}
use Rattle.es_base.specs.Table.{Field, members_of}
use Rattle.es_base.specs.Conforms.{key_place}
use Rattle.es_base.specs.Preorder.{nodes_of_part, numbered_from, numbered_part, numbered_parts}
use Rattle.es_base.specs.declared.kind.Kind.{Kind}
use Rattle.es_base.specs.declared.literal.LiteralValue.{LiteralValue}
use Rattle.es_base.specs.declared.table.Sort.{Sort}
use Rattle.es_reading.specs.Fault.{Read}
use Rattle.es_reading.specs.Look.{is_true_at, is_null, span_at}
use Rattle.es_reading.specs.Reading.{reader_of, readers_in, readers, finds, read, kind_of, number_of, members_in, member_of, read_by, parent_of, node_of, each, as_child, alone, leaf_of, literal_part, slot, slots_below, is_last, below, place_below}
use Rattle.es_reading.specs.declared.numbers.Numbers.{Numbers}
use Rattle.es_reading.specs.declared.spot.Parent.{Parent}
use Rattle.es_reading.specs.declared.spot.Slots.{Slots}
use Rattle.es_reading.specs.declared.spot.Spot.{Spot}
use Rattle.es_reading.proofs.Below.{AllIn, items_in, Holds, AtMembers, Steps, holds}
use Rattle.es_reading.proofs.Chosen.{bound, numbered}
use Rattle.es_reading.proofs.Conforming.{same_read, same_value, consecutive, items_are}
use Rattle.es_reading.proofs.Walk.{read_is}

abbrev Counts : Data → Type 0
Counts d = (spot : Spot) (n : ℕ) (x : Read Tree) → read Numbers.Preorder d spot n ≡ Ok x → x.value ≡ numbered_from n x.value

-- the nodes of a part, and of parts, have the numbers from n on
abbrev PartCounts : ℕ → Part → Type 0
PartCounts n p = p ≡ numbered_part n p

abbrev PartsCount : ℕ → Parts → Type 0
PartsCount n ps = ps ≡ numbered_parts n ps

more_count : (n : ℕ) (p : Part) (ps : Parts) → PartCounts n p → PartsCount (n + nodes_of_part p) ps → PartsCount n (more p ps)
more_count n p ps first rest = ap₂ more first rest

child_counts : (d : Data) (spot : Spot) (n : ℕ) (x : Read Part) → Counts d → as_child (read Numbers.Preorder d spot n) ≡ Ok x → PartCounts n x.value
child_counts d spot n x counts e =
    let b = bound (read Numbers.Preorder d spot n) _ x e in
    subst (λ (p : Part). PartCounts n p) (same_value _ _ b.2) (ap child (counts spot n b.0 b.1))

item_by : (b : Bool) (d : Data) (spot : Spot) (n : ℕ) (x : Read Part) → Counts d → (if b then alone absent else as_child (read Numbers.Preorder d spot n)) ≡ Ok x → PartCounts n x.value
item_by true d spot n x counts e = subst (λ (p : Part). PartCounts n p) (same_value _ _ e) refl
item_by false d spot n x counts e = child_counts d spot n x counts e

item_counts : (d : Data) (nulls : Bool) (spot : Spot) (n : ℕ) (x : Read Part) → Counts d → (reader_of Numbers.Preorder d).item nulls spot n ≡ Ok x → PartCounts n x.value
item_counts d nulls spot n x counts e = item_by (nulls && is_null d) d spot n x counts e

items_count : (ds : Items) (slots : Slots) (n : ℕ) (x : Read Parts) → AllIn Counts ds → each (consecutive slots) (readers Numbers.Preorder ds) n ≡ Ok x → PartsCount n x.value
unfolding readers
items_count no_items slots n x counts e = subst (λ (ps : Parts). PartsCount n ps) (same_value _ _ e) refl
items_count (item d ds) slots n x counts e =
    let b = bound ((reader_of Numbers.Preorder d).item slots.holes (slot slots (is_last (readers Numbers.Preorder ds))) n) _ x e in
    let p : Read Part = b.0 in
    let c = bound (each (consecutive slots) (readers Numbers.Preorder ds) (n + nodes_of_part p.value)) _ x b.2 in
    let ps : Read Parts = c.0 in
    subst (λ (qs : Parts). PartsCount n qs) (same_value _ _ c.2)
    (more_count n p.value ps.value
    (item_counts d slots.holes (slot slots (is_last (readers Numbers.Preorder ds))) n p counts.0 b.1)
    (items_count ds slots (n + nodes_of_part p.value) ps counts.1 c.1))

-- ---- a member

by_item : (o : Option Data) (nulls : Bool) (spot : Spot) (n : ℕ) (x : Read Part) → ((e : Data) → o ≡ Some e → Holds Counts e) → read_by (option_map (reader_of Numbers.Preorder) o) (λ r. r.item nulls spot n) ≡ Ok x → PartCounts n x.value
by_item None nulls spot n x counts is = subst (λ (p : Part). PartCounts n p) (same_value _ _ is) refl
by_item (Some e) nulls spot n x counts is = item_counts e nulls spot n x (counts e refl).0 is

by_items : (o : Option Data) (slots : Slots) (n : ℕ) (x : Read Part) → ((e : Data) → o ≡ Some e → Holds Counts e) → read_by (option_map (reader_of Numbers.Preorder) o) (λ r. r.items slots n) ≡ Ok x → PartCounts n x.value
by_items None slots n x counts is = subst (λ (p : Part). PartCounts n p) (same_value _ _ is) refl
by_items (Some e) slots n x counts is =
    let b = bound (each (consecutive slots) (readers_in Numbers.Preorder e) n) _ x is in
    subst (λ (p : Part). PartCounts n p) (same_value _ _ b.2)
    (ap list (items_count (items_in e) slots n b.0 (counts e refl).1 (ap (λ rs. each (consecutive slots) rs n) (sym (items_are Numbers.Preorder e)) ∙ b.1)))

string_counts : (n : ℕ) (o : Option (List ℕ)) → PartCounts n (nullable_string o)
string_counts n None = refl
string_counts n (Some s) = refl

literal_counts : (n : ℕ) (o : Option LiteralValue) → PartCounts n (literal_part o)
literal_counts n None = refl
literal_counts n (Some v) = refl

leaf_counts : (n : ℕ) (d : Data) (name : List ℕ) (sort : Sort) → PartCounts n (leaf_of d name sort)
leaf_counts n d name Sort.Boolean = refl
leaf_counts n d name Sort.False = refl
leaf_counts n d name Sort.Literal = literal_counts n _
leaf_counts n d name Sort.Raw = string_counts n _
leaf_counts n d name Sort.Cooked = string_counts n _
leaf_counts n d name _ = string_counts n _

by_leaf : (d : Data) (name : List ℕ) (sort : Sort) (n : ℕ) (x : Read Part) → alone (leaf_of d name sort) ≡ Ok x → PartCounts n x.value
by_leaf d name sort n x is = subst (λ (p : Part). PartCounts n p) (same_value _ _ is) (leaf_counts n d name sort)

part_counts : (d : Data) (parent : Parent) (name : List ℕ) (sort : Sort) (n : ℕ) (x : Read Part) → AtMembers Counts d → member_of (finds Numbers.Preorder d) d parent name sort n ≡ Ok x → PartCounts n x.value
part_counts d parent name (Sort.Child place) n x at is = by_item (get name d) false (below parent (place_below parent.kind d place)) n x (at name) is
part_counts d parent name (Sort.Key place) n x at is = by_item (get name d) false (below parent (key_place (is_true_at (codes "computed") d) place)) n x (at name) is
part_counts d parent name (Sort.Nullable place) n x at is = by_item (get name d) true (below parent place) n x (at name) is
part_counts d parent name (Sort.List place) n x at is = by_items (get name d) (slots_below parent false place) n x (at name) is
part_counts d parent name (Sort.NonEmptyList place) n x at is = by_items (get name d) (slots_below parent false place) n x (at name) is
part_counts d parent name (Sort.ListWithHoles place) n x at is = by_items (get name d) (slots_below parent true place) n x (at name) is
part_counts d parent name sort n x at is = by_leaf d name sort n x is

parts_count : (d : Data) (parent : Parent) (fs : List Field) (n : ℕ) (x : Read Parts) → AtMembers Counts d → members_in (finds Numbers.Preorder d) d parent fs n ≡ Ok x → PartsCount n x.value
parts_count d parent [] n x at is = subst (λ (ps : Parts). PartsCount n ps) (same_value _ _ is) refl
parts_count d parent (f ∷ fs) n x at is =
    let b = bound (member_of (finds Numbers.Preorder d) d parent f.name f.sort n) _ x is in
    let p : Read Part = b.0 in
    let c = bound (members_in (finds Numbers.Preorder d) d parent fs (n + nodes_of_part p.value)) _ x b.2 in
    let ps : Read Parts = c.0 in
    subst (λ (qs : Parts). PartsCount n qs) (same_value _ _ c.2)
    (more_count n p.value ps.value (part_counts d parent f.name f.sort n p at b.1) (parts_count d parent fs (n + nodes_of_part p.value) ps at c.1))

-- ---- a node

node_by : (d : Data) (n : ℕ) (k : Kind) (id : ℕ) (ps : Read Parts) (x : Read Tree) → n ≡ id → PartsCount (n + 1) ps.value → node_of k d id ps ≡ x → x.value ≡ numbered_from n x.value
node_by d n k id ps x at parts same =
    subst (λ (y : Read Tree). y.value ≡ numbered_from n y.value) same (ap₂ (λ i qs. Node k i (span_at d) None qs) (sym at) parts)

counts : Steps Counts
counts d at spot n x e =
    let b = bound (kind_of d spot n) _ x (sym (read_is Numbers.Preorder d spot n) ∙ e) in
    let c = bound (number_of Numbers.Preorder d b.0 n) _ x b.2 in
    let m = bound (members_in (finds Numbers.Preorder d) d (parent_of b.0 spot d) (members_of b.0) (n + 1)) _ x c.2 in
    node_by d n b.0 c.0 m.0 x (same_number n c.0 (numbered Numbers.Preorder d b.0 n c.0 c.1).1) (parts_count d (parent_of b.0 spot d) (members_of b.0) (n + 1) m.0 at m.1) (same_read (node_of b.0 d c.0 m.0) x m.2) where
      same_number : (i j : ℕ) → Some i ≡ Some j → i ≡ j
      same_number i j s = cc

pub read_in_order : (d : Data) (spot : Spot) (n : ℕ) (x : Read Tree) → read Numbers.Preorder d spot n ≡ Ok x → x.value ≡ numbered_from n x.value
read_in_order d = (holds Counts counts d).0
