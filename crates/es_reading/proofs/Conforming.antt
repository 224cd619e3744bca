-- A tree that is read conforms at its place.
use Rattle.std.proofs.Common.{◌≡◌, refl, sym, ap, ◌∙◌, subst, ℕ, ◌+◌, List, [], ◌∷◌, Bool, true, false, not, ◌&&◌, Option, Some, None, option_map, option_and_then, Result, Ok, if◌then◌else◌, arith}
use Rattle.std.specs.Prelude.{codes, is_some, ◌||◌}
use Rattle.serde_json.specs.Data.{Data, null, boolean as json_boolean, number, string as json_string, array, object, Items, no_items, item}
use Rattle.serde_json.specs.Find.{get, as_array}
use Rattle.es_base.specs.Tree.{Tree, Part, Parts, end, more, child, absent, list}
use Rattle.es_base.specs.Table.{Field, members_of}
use Rattle.es_base.specs.Conforms.{conforms, item_conforms, is_rest, is_end, key_place, item_count}
use Rattle.es_base.specs.Preorder.{nodes_of_part}
use Rattle.es_base.specs.declared.kind.Kind.{Kind}
use Rattle.es_base.specs.declared.table.Place.{Place}
use Rattle.es_base.specs.declared.table.Sort.{Sort}
use Rattle.es_reading.proofs.And.{left_of, right_of, both, wrong}
use Rattle.es_reading.specs.Fault.{Fault, Read}
use Rattle.es_reading.specs.Look.{is_true_at, array_at, is_null, is_there, span_at}
use Rattle.es_reading.specs.Members.{is_of_sort, are_of_sorts, are_good, is_empty, item_count as data_count}
use Rattle.es_reading.specs.Reading.{Reader, reader_of, readers_in, readers, finds, read, kind_of, number_of, members_in, member_of, read_by, parent_of, node_of, each, as_child, alone, leaf_of, slot, slots_below, is_last, below, place_below}
use Rattle.es_reading.specs.declared.numbers.Numbers.{Numbers}
use Rattle.es_reading.specs.declared.spot.Parent.{Parent}
use Rattle.es_reading.specs.declared.spot.Slots.{Slots}
use Rattle.es_reading.specs.declared.spot.Spot.{Spot}
use Rattle.es_reading.proofs.Below.{AllIn, items_in, Holds, AtMembers, Steps, holds}
use Rattle.es_reading.proofs.Chosen.{IsChosen, bound, chosen, numbered}
use Rattle.es_reading.proofs.Parted.{PartRead, PartsRead, LeafRead, ListRead}
use Rattle.es_reading.proofs.Ruled.{node_stands}
use Rattle.es_reading.proofs.Standing.{NodeStands, ListStands, specifier_in}
use Rattle.es_reading.proofs.Walk.{read_is}

-- what is read of a value as a node stands where it is to stand
abbrev pub Stand : Numbers → Data → Type 0
Stand numbers d = (spot : Spot) (n : ℕ) (x : Read Tree) → read numbers d spot n ≡ Ok x → NodeStands spot x.value

pub same_read : {T : Type 0} (x y : Read T) → ◌≡◌ {A = Result (Read T) Fault} (Ok x) (Ok y) → x ≡ y
same_read x y e = cc

pub same_value : {T : Type 0} (x y : Read T) → ◌≡◌ {A = Result (Read T) Fault} (Ok x) (Ok y) → x.value ≡ y.value
same_value x y e = ap (λ r. r.value) (same_read x y e)

-- ---- an item

record ItemStands (holes : Bool) (spot : Spot) (p : Part) : Type 0 where
  conforming : item_conforms holes spot.place p ≡ true
  rest_last : is_rest p ≡ true → spot.last ≡ true
  specifier : specifier_in spot.sourced p ≡ true

child_item : (numbers : Numbers) (d : Data) (holes : Bool) (spot : Spot) (n : ℕ) (x : Read Part) → Stand numbers d → as_child (read numbers d spot n) ≡ Ok x → ItemStands holes spot x.value
child_item numbers d holes spot n x stand e =
    let b = bound (read numbers d spot n) _ x e in
    let node = stand spot n b.0 b.1 in
    subst (λ (p : Part). ItemStands holes spot p) (same_value _ _ b.2) (record { conforming = node.conforming; rest_last = node.rest_last; specifier = node.specifier })

item_by : (b : Bool) (numbers : Numbers) (d : Data) (holes : Bool) (spot : Spot) (n : ℕ) (x : Read Part) → Stand numbers d → (holes && is_null d) ≡ b
    → (if b then alone absent else as_child (read numbers d spot n)) ≡ Ok x → ItemStands holes spot x.value
item_by true numbers d holes spot n x stand is e = subst (λ (p : Part). ItemStands holes spot p) (same_value _ _ e) (record { conforming = left_of _ _ is; rest_last = λ h. wrong h; specifier = refl })
item_by false numbers d holes spot n x stand is e = child_item numbers d holes spot n x stand e

item_stands : (numbers : Numbers) (d : Data) (holes : Bool) (spot : Spot) (n : ℕ) (x : Read Part) → Stand numbers d → (reader_of numbers d).item holes spot n ≡ Ok x → ItemStands holes spot x.value
item_stands numbers d holes spot n x stand e = item_by (holes && is_null d) numbers d holes spot n x stand refl e

-- ---- a list

abbrev pub consecutive : Slots → Reader → List Reader → ℕ → Result (Read Part) Fault
consecutive slots r rest n = r.item slots.holes (slot slots (is_last rest)) n

ended : (numbers : Numbers) (ds : Items) (slots : Slots) (n : ℕ) (x : Read Parts) → each (consecutive slots) (readers numbers ds) n ≡ Ok x → is_last (readers numbers ds) ≡ true → is_end x.value ≡ true
unfolding readers
ended numbers no_items slots n x e h = ap is_end (sym (same_value _ _ e))
ended numbers (item d ds) slots n x e h = wrong h

rest_rule : (r e l : Bool) → (r ≡ true → l ≡ true) → (l ≡ true → e ≡ true) → (not r || e) ≡ true
rest_rule true e l f g = g (f refl)
rest_rule false e l f g = refl

record ItemsStand (slots : Slots) (ds : Items) (ps : Parts) : Type 0 where
  stands : ListStands slots ps
  count : data_count ds ≡ item_count ps

items_stand : (numbers : Numbers) (ds : Items) (slots : Slots) (n : ℕ) (x : Read Parts) → AllIn (Stand numbers) ds → each (consecutive slots) (readers numbers ds) n ≡ Ok x → ItemsStand slots ds x.value
unfolding readers
items_stand numbers no_items slots n x stand e = subst (λ (ps : Parts). ItemsStand slots no_items ps) (same_value _ _ e) (record { stands = record { conforming = refl; specifiers = refl }; count = refl })
items_stand numbers (item d ds) slots n x stand e =
    let b = bound ((reader_of numbers d).item slots.holes (slot slots (is_last (readers numbers ds))) n) _ x e in
    let p : Read Part = b.0 in
    let c = bound (each (consecutive slots) (readers numbers ds) (n + nodes_of_part p.value)) _ x b.2 in
    let ps : Read Parts = c.0 in
    let first = item_stands numbers d slots.holes (slot slots (is_last (readers numbers ds))) n p stand.0 b.1 in
    let others = items_stand numbers ds slots (n + nodes_of_part p.value) ps stand.1 c.1 in
    subst (λ (qs : Parts). ItemsStand slots (item d ds) qs) (same_value _ _ c.2) (record {
      stands = record {
        conforming = both _ _ first.conforming (both _ _ (rest_rule (is_rest p.value) (is_end ps.value) (is_last (readers numbers ds)) first.rest_last (λ h. ended numbers ds slots (n + nodes_of_part p.value) ps c.1 h)) others.stands.conforming);
        specifiers = both _ _ first.specifier others.stands.specifiers;
      };
      count = ap (λ k. k + 1) others.count;
    })

pub items_are : (numbers : Numbers) (d : Data) → readers_in numbers d ≡ readers numbers (items_in d)
unfolding readers readers_in
items_are numbers null = refl
items_are numbers (json_boolean b) = refl
items_are numbers (number b) = refl
items_are numbers (json_string s) = refl
items_are numbers (array ds) = refl
items_are numbers (object ms) = refl

-- ---- a member

array_is : (e : Data) → is_some (as_array e) ≡ true → as_array e ≡ Some (items_in e)
array_is null h = wrong h
array_is (json_boolean b) h = wrong h
array_is (number b) h = wrong h
array_is (json_string s) h = wrong h
array_is (array ds) h = refl
array_is (object ms) h = wrong h

there_is : (e : Data) → is_there (Some e) ≡ not (is_null e)
there_is null = refl
there_is (json_boolean b) = refl
there_is (number b) = refl
there_is (json_string s) = refl
there_is (array ds) = refl
there_is (object ms) = refl

-- the node of a part
abbrev ChildStands : Spot → Part → Type 0
ChildStands spot p = (t : Tree) × (child t ≡ p) × NodeStands spot t

as_child_stands : (numbers : Numbers) (e : Data) (spot : Spot) (n : ℕ) (x : Read Part) → Stand numbers e → as_child (read numbers e spot n) ≡ Ok x → ChildStands spot x.value
as_child_stands numbers e spot n x stand is =
    let b = bound (read numbers e spot n) _ x is in
    (b.0.value, same_value _ _ b.2, stand spot n b.0 b.1)

child_stands : (numbers : Numbers) (o : Option Data) (spot : Spot) (n : ℕ) (x : Read Part) → ((e : Data) → o ≡ Some e → Holds (Stand numbers) e) → is_some o ≡ true
    → read_by (option_map (reader_of numbers) o) (λ r. r.item false spot n) ≡ Ok x → ChildStands spot x.value
child_stands numbers None spot n x stand there is = wrong there
child_stands numbers (Some e) spot n x stand there is = as_child_stands numbers e spot n x (stand e refl).0 is

nullable_by : (b : Bool) (numbers : Numbers) (d e : Data) (parent : Parent) (name : List ℕ) (place : Place) (n : ℕ) (x : Read Part) → Stand numbers e → get name d ≡ Some e → is_null e ≡ b
    → (if b then alone absent else as_child (read numbers e (below parent place) n)) ≡ Ok x → PartRead d parent name (Sort.Nullable place) x.value
nullable_by true numbers d e parent name place n x stand here gone is = subst (λ (p : Part). PartRead d parent name (Sort.Nullable place) p) (same_value _ _ is) (ap is_there here ∙ there_is e ∙ ap not gone)
nullable_by false numbers d e parent name place n x stand here gone is =
    let c = as_child_stands numbers e (below parent place) n x stand is in
    subst (λ (p : Part). PartRead d parent name (Sort.Nullable place) p) c.1 (c.2, ap is_there here ∙ there_is e ∙ ap not gone)

nullable_stands : (numbers : Numbers) (o : Option Data) (d : Data) (parent : Parent) (name : List ℕ) (place : Place) (n : ℕ) (x : Read Part) → get name d ≡ o → ((e : Data) → o ≡ Some e → Holds (Stand numbers) e)
    → read_by (option_map (reader_of numbers) o) (λ r. r.item true (below parent place) n) ≡ Ok x → PartRead d parent name (Sort.Nullable place) x.value
nullable_stands numbers None d parent name place n x here stand is = subst (λ (p : Part). PartRead d parent name (Sort.Nullable place) p) (same_value _ _ is) (ap is_there here)
nullable_stands numbers (Some e) d parent name place n x here stand is = nullable_by (is_null e) numbers d e parent name place n x (stand e refl).0 here refl is

-- the list of a part
record ListOf (d : Data) (name : List ℕ) (slots : Slots) (p : Part) : Type 0 where
  parts : Parts
  is : list parts ≡ p
  stands : ListStands slots parts
  read : ListRead d name parts

list_stands : (numbers : Numbers) (o : Option Data) (d : Data) (name : List ℕ) (slots : Slots) (n : ℕ) (x : Read Part) → get name d ≡ o → ((e : Data) → o ≡ Some e → Holds (Stand numbers) e) → is_some (option_and_then as_array o) ≡ true
    → read_by (option_map (reader_of numbers) o) (λ r. r.items slots n) ≡ Ok x → ListOf d name slots x.value
list_stands numbers None d name slots n x here stand there is = wrong there
list_stands numbers (Some e) d name slots n x here stand there is =
    let b = bound (each (consecutive slots) (readers_in numbers e) n) _ x is in
    let ps : Read Parts = b.0 in
    let items = items_stand numbers (items_in e) slots n ps (stand e refl).1 (ap (λ rs. each (consecutive slots) rs n) (sym (items_are numbers e)) ∙ b.1) in
    record { parts = ps.value; is = same_value _ _ b.2; stands = items.stands; read = record { items = items_in e; there = ap (option_and_then as_array) here ∙ array_is e there; count = items.count } }

full_list : (ds : Items) (ps : Parts) → data_count ds ≡ item_count ps → not (is_empty (Some ds)) ≡ true → is_end ps ≡ false
full_list no_items ps count h = wrong h
full_list (item d ds) end count h = absurd (omega (arith, count))
full_list (item d ds) (more p ps) count h = refl

some_stands : (d : Data) (name : List ℕ) (parts : Parts) → ListRead d name parts → (is_some (array_at name d) && not (is_empty (array_at name d))) ≡ true → is_end parts ≡ false
some_stands d name parts r h = full_list r.items parts r.count (sym (ap (λ o. not (is_empty o)) r.there) ∙ right_of (is_some (array_at name d)) _ h)

leaf_stands : (d : Data) (name : List ℕ) (sort : Sort) (x : Read Part) → is_of_sort d name sort ≡ true → alone (leaf_of d name sort) ≡ Ok x → LeafRead d name sort x.value
leaf_stands d name sort x h is = record { good = h; is = same_value _ _ is }

part_stands : (numbers : Numbers) (d : Data) (parent : Parent) (name : List ℕ) (sort : Sort) (n : ℕ) (x : Read Part) → AtMembers (Stand numbers) d → is_of_sort d name sort ≡ true
    → member_of (finds numbers d) d parent name sort n ≡ Ok x → PartRead d parent name sort x.value
part_stands numbers d parent name (Sort.Child place) n x at h is =
    let c = child_stands numbers (get name d) (below parent (place_below parent.kind d place)) n x (at name) h is in
    subst (λ (p : Part). PartRead d parent name (Sort.Child place) p) c.1 c.2
part_stands numbers d parent name (Sort.Key place) n x at h is =
    let c = child_stands numbers (get name d) (below parent (key_place (is_true_at (codes "computed") d) place)) n x (at name) h is in
    subst (λ (p : Part). PartRead d parent name (Sort.Key place) p) c.1 c.2
part_stands numbers d parent name (Sort.Nullable place) n x at h is = nullable_stands numbers (get name d) d parent name place n x refl (at name) is
part_stands numbers d parent name (Sort.List place) n x at h is =
    let c = list_stands numbers (get name d) d name (slots_below parent false place) n x refl (at name) h is in
    subst (λ (p : Part). PartRead d parent name (Sort.List place) p) c.is (c.stands, c.read)
part_stands numbers d parent name (Sort.NonEmptyList place) n x at h is =
    let c = list_stands numbers (get name d) d name (slots_below parent false place) n x refl (at name) (left_of _ _ h) is in
    subst (λ (p : Part). PartRead d parent name (Sort.NonEmptyList place) p) c.is (c.stands, c.read, some_stands d name c.parts c.read h)
part_stands numbers d parent name (Sort.ListWithHoles place) n x at h is =
    let c = list_stands numbers (get name d) d name (slots_below parent true place) n x refl (at name) h is in
    subst (λ (p : Part). PartRead d parent name (Sort.ListWithHoles place) p) c.is (c.stands, c.read)
part_stands numbers d parent name _ n x at h is = leaf_stands d name _ x h is

parts_stand : (numbers : Numbers) (d : Data) (parent : Parent) (fs : List Field) (n : ℕ) (x : Read Parts) → AtMembers (Stand numbers) d → are_of_sorts d fs ≡ true
    → members_in (finds numbers d) d parent fs n ≡ Ok x → PartsRead d parent fs x.value
parts_stand numbers d parent [] n x at h is = subst (λ (ps : Parts). PartsRead d parent [] ps) (same_value _ _ is) tt
parts_stand numbers d parent (f ∷ fs) n x at h is =
    let b = bound (member_of (finds numbers d) d parent f.name f.sort n) _ x is in
    let p : Read Part = b.0 in
    let c = bound (members_in (finds numbers d) d parent fs (n + nodes_of_part p.value)) _ x b.2 in
    subst (λ (ps : Parts). PartsRead d parent (f ∷ fs) ps) (same_value _ _ c.2)
    (part_stands numbers d parent f.name f.sort n p at (left_of _ _ h) b.1, parts_stand numbers d parent fs (n + nodes_of_part p.value) c.0 at (right_of (is_of_sort d f.name f.sort) _ h) c.1)

-- ---- a node

node_by : (numbers : Numbers) (d : Data) (spot : Spot) (n : ℕ) (k : Kind) (id : ℕ) (ps : Read Parts) (x : Read Tree) → AtMembers (Stand numbers) d → IsChosen spot d k → are_good k d ≡ true
    → members_in (finds numbers d) d (parent_of k spot d) (members_of k) (n + 1) ≡ Ok ps → node_of k d id ps ≡ x → NodeStands spot x.value
node_by numbers d spot n k id ps x at is good m same =
    subst (λ (y : Read Tree). NodeStands spot y.value) same
    (node_stands spot d k id (span_at d) ps.value is good (parts_stand numbers d (parent_of k spot d) (members_of k) (n + 1) ps at (left_of _ _ good) m))

stands : (numbers : Numbers) → Steps (Stand numbers)
stands numbers d at spot n x e =
    let b = bound (kind_of d spot n) _ x (sym (read_is numbers d spot n) ∙ e) in
    let c = bound (number_of numbers d b.0 n) _ x b.2 in
    let m = bound (members_in (finds numbers d) d (parent_of b.0 spot d) (members_of b.0) (n + 1)) _ x c.2 in
    node_by numbers d spot n b.0 c.0 m.0 x at (chosen d spot n b.0 b.1) (numbered numbers d b.0 n c.0 c.1).0 m.1 (same_read (node_of b.0 d c.0 m.0) x m.2)

-- what is read stands where it is to stand
pub read_stands : (numbers : Numbers) (d : Data) → Stand numbers d
read_stands numbers d = (holds (Stand numbers) (stands numbers) d).0

pub read_conforms : (numbers : Numbers) (d : Data) (spot : Spot) (n : ℕ) (x : Read Tree) → read numbers d spot n ≡ Ok x → conforms spot.place x.value ≡ true
read_conforms numbers d spot n x e = (read_stands numbers d spot n x e).conforming
