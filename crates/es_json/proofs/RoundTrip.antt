-- Reading gives back what was written, but for the semantic ids.
use Rattle.std.proofs.Common.{◌≡◌, refl, sym, ap, ap₂, ◌∙◌, ℕ, ◌+◌, List, [], ◌∷◌, ◌++◌, Bool, true, false, Option, Some, None, option_map, Result, Ok, if◌then◌else◌}
use Rattle.std.specs.Prelude.{◌&&◌, codes, option_and_then}
use Rattle.std.specs.Str.{chars}
use Rattle.std.proofs.lemmas.Bool.{and_parts}
use Rattle.serde_json.specs.Data.{Data, null, array, Items, no_items, item}
use Rattle.serde_json.specs.Find.{get, as_str, as_bool}
use Rattle.es_base.specs.Tree.{Tree, Part, Parts, Node, end, more, child, absent, list, string, no_string, boolean, literal, nullable_string}
use Rattle.es_base.specs.Conforms.{conforms, parts_conform, part_conforms, boolean_at, key_place, is_end}
use Rattle.es_base.specs.Preorder.{nodes_of_part}
use Rattle.es_base.specs.Table.{Field, members_of}
use Rattle.es_base.specs.declared.kind.Kind.{Kind}
use Rattle.es_base.specs.declared.table.Place.{Place}
use Rattle.es_base.specs.declared.table.Sort.{Sort}
use Rattle.es_reading.specs.Fault.{Fault, Read, bind}
use Rattle.es_reading.specs.Look.{is_null, is_true, is_true_at, span_at, chars_at}
use Rattle.es_reading.specs.Reading.{Reader, alone, before, each, own_number, node_of, members_in, member_of, read_by, reader_of, finds, kind_of, number_of, parent_of, place_below, below, slots_below, slot, as_child, as_list, is_last, items_of, readers_in, readers, read, root}
use Rattle.es_reading.specs.Unlisted.{is_foreign_node}
use Rattle.es_reading.specs.declared.numbers.Numbers.{Numbers}
use Rattle.es_reading.specs.declared.spot.Parent.{Parent}
use Rattle.es_reading.specs.declared.spot.Slots.{Slots}
use Rattle.es_reading.specs.declared.spot.Spot.{Spot}
use Rattle.es_reading.proofs.Walk.{read_is}
use Rattle.es_writing.specs.Writing.{write, write_items, write_item}
use Rattle.es_base.specs.Carried.{stripped, stripped_part, stripped_parts}
use Rattle.es_writing.specs.Kept.{IsString, IsKept, PartIsKept, AreKept}
use Rattle.es_json.specs.Suits.{kind_suits, local_suits, Suits}
use Rattle.es_json.proofs.Choice.{kind_chosen}
use Rattle.es_json.proofs.Fits.{ItemFits, ItemsFit, Fits, AllFit, all_fit}
use Rattle.es_json.proofs.Floats.{no_floats}
use Rattle.es_json.proofs.Good.{number_is}
use Rattle.es_json.proofs.Looks.{type_found, number_found, span_found, no_foreign}
use Rattle.es_json.proofs.Parts.{parts_of}
use Rattle.es_json.proofs.Stands.{there, Stands, AllStand, all_stand}
use Rattle.es_json.proofs.Tests.{not_true, and_none}

-- read with no node of TypeScript, JSX or import attributes
abbrev plainly : {T : Type 0} → T → Result (Read T) Fault
plainly x = Ok (record { value = x; foreign = [] })

pub node_back : (d : Data) (kind : Kind) (spot : Spot) (n id : ℕ) (span : Option (ℕ × ℕ)) (ps : Parts)
    → kind_of d spot n ≡ Ok kind → number_of Numbers.Given d kind n ≡ Ok id → members_in (finds Numbers.Given d) d (parent_of kind spot d) (members_of kind) (n + 1) ≡ plainly ps
    → is_foreign_node kind d ≡ false → span_at d ≡ span → read Numbers.Given d spot n ≡ plainly (Node kind id span None ps)
node_back d kind spot n id span ps is has members plain spans =
    read_is Numbers.Given d spot n
    ∙ ap (λ r. bind r (λ k. bind (number_of Numbers.Given d k n) (λ i. bind (members_in (finds Numbers.Given d) d (parent_of k spot d) (members_of k) (n + 1)) (λ qs. Ok (node_of k d i qs))))) is
    ∙ ap (λ r. bind r (λ i. bind (members_in (finds Numbers.Given d) d (parent_of kind spot d) (members_of kind) (n + 1)) (λ qs. Ok (node_of kind d i qs)))) has
    ∙ ap (λ r. bind r (λ qs. Ok (node_of kind d id qs))) members
    ∙ ap₂ (λ s b. Ok (record { value = Node kind id s None ps; foreign = own_number b id ++ [] })) spans plain

write_there : (t : Tree) → is_null (write t) ≡ false
write_there (Node kind id span semantic_id ps) = refl

items_are : (ds : Items) → readers_in Numbers.Given (array ds) ≡ readers Numbers.Given ds
unfolding readers_in
items_are ds = refl

readers_none : readers Numbers.Given no_items ≡ []
unfolding readers
readers_none = refl

readers_more : (d : Data) (ds : Items) → readers Numbers.Given (item d ds) ≡ reader_of Numbers.Given d ∷ readers Numbers.Given ds
unfolding readers
readers_more d ds = refl

last_is : (ps : Parts) → is_last (readers Numbers.Given (write_items ps)) ≡ is_end ps
unfolding readers
last_is end = refl
last_is (more p ps) = refl

abbrev one_item : Slots → Reader → List Reader → ℕ → Result (Read Part) Fault
one_item slots r rest n = r.item slots.holes (slot slots (is_last rest)) n

at_member : (d : Data) (name : List ℕ) (o : Option Data) (by : Reader → Result (Read Part) Fault) → get name d ≡ o → read_by (finds Numbers.Given d name) by ≡ read_by (option_map (reader_of Numbers.Given) o) by
at_member d name o by at = ap (λ z. read_by (option_map (reader_of Numbers.Given) z) by) at

string_back : (d : Data) (name : List ℕ) (s : List ℕ) → get name d ≡ there (string s) → IsString s → alone (nullable_string (chars_at name d)) ≡ plainly (string s)
string_back d name s at kept = ap (λ o. alone (nullable_string (option_map chars (option_and_then as_str o)))) at ∙ ap (λ z. alone (string z)) kept

mutual
  -- a tree that conforms where it stands and suits the spot is read back, but for its semantic ids
  pub law : (t : Tree) (spot : Spot) (n : ℕ) → conforms spot.place t ≡ true → IsKept t → Suits spot t → read Numbers.Given (write t) spot n ≡ Ok (record { value = stripped t; foreign = [] })
  law (Node kind id span semantic_id ps) spot n c kept suits =
      let d = write (Node kind id span semantic_id ps) in
      let computed = boolean_at (codes "computed") (members_of kind) ps in
      let parts = parts_of spot.place kind id span semantic_id ps c in
      let conform = parts.1.1.1 in
      let suit = and_parts (kind_suits spot kind) (local_suits spot.sourced kind ps) suits in
      let stands = all_stand kind id span ps computed conform kept.2 in
      let fits = all_fit kind spot d ps parts.1.1.0 suit.1 conform stands in
      node_back d kind spot n id span (stripped_parts ps) (kind_chosen kind spot d ps n (type_found kind id span ps computed conform) parts.0 parts.1.0 conform kept.2 stands suit.0)
      (number_is computed kind d ps id n (no_floats (Node kind id span semantic_id ps)) parts.1.1.0 conform kept.2 stands (number_found kind id span ps computed conform kept.0))
      (law_fields ps (members_of kind) (parent_of kind spot d) d computed (n + 1) conform kept.2 stands fits)
      (no_foreign kind id span ps computed conform)
      (span_found kind id span ps computed conform kept.1)

  pub law_fields : (ps : Parts) (fs : List Field) (parent : Parent) (d : Data) (computed : Bool) (n : ℕ) → parts_conform computed fs ps ≡ true → AreKept ps → AllStand d fs ps → AllFit parent d fs ps
      → members_in (finds Numbers.Given d) d parent fs n ≡ Ok (record { value = stripped_parts ps; foreign = [] })
  law_fields end [] parent d computed n c kept stands fits = refl
  law_fields end (f ∷ fs) parent d computed n c kept stands fits = cc
  law_fields (more p ps) [] parent d computed n c kept stands fits = cc
  law_fields (more p ps) (f ∷ fs) parent d computed n c kept stands fits =
      let conform = and_parts (part_conforms computed f.sort p) (parts_conform computed fs ps) c in
      let m : ℕ = n + nodes_of_part (stripped_part p) in
      ap (λ r. bind r (λ q. bind (members_in (finds Numbers.Given d) d parent fs (n + nodes_of_part q.value)) (λ qs. Ok (before q qs)))) (law_part p f.name f.sort parent d computed n conform.0 kept.0 stands.0 fits.0)
      ∙ ap (λ r. bind r (λ qs. Ok (before (record { value = stripped_part p; foreign = [] }) qs))) (law_fields ps fs parent d computed m conform.1 kept.1 stands.1 fits.1)

  law_part : (p : Part) (name : List ℕ) (sort : Sort) (parent : Parent) (d : Data) (computed : Bool) (n : ℕ) → part_conforms computed sort p ≡ true → PartIsKept p → Stands d name sort p → Fits parent d sort p
      → member_of (finds Numbers.Given d) d parent name sort n ≡ Ok (record { value = stripped_part p; foreign = [] })
  law_part (child t) name (Sort.Child place) parent d computed n c kept at fits =
      at_member d name (Some (write t)) (λ r. r.item false (below parent (place_below parent.kind d place)) n) at ∙ ap as_child (law t (below parent (place_below parent.kind d place)) n fits.0 kept fits.1)
  law_part (child t) name (Sort.Key place) parent d computed n c kept at fits =
      at_member d name (Some (write t)) (λ r. r.item false (below parent (key_place (is_true_at (codes "computed") d) place)) n) at ∙ ap as_child (law t (below parent (key_place (is_true_at (codes "computed") d) place)) n fits.0 kept fits.1)
  law_part (child t) name (Sort.Nullable place) parent d computed n c kept at fits =
      at_member d name (Some (write t)) (λ r. r.item true (below parent place) n) at
      ∙ ap (λ b. if b then alone absent else as_child (read Numbers.Given (write t) (below parent place) n)) (write_there t)
      ∙ ap as_child (law t (below parent place) n fits.0 kept fits.1)
  law_part absent name (Sort.Nullable place) parent d computed n c kept at fits = at_member d name (Some null) (λ r. r.item true (below parent place) n) at
  law_part (list ps) name (Sort.List place) parent d computed n c kept at fits =
      at_member d name (Some (array (write_items ps))) (λ r. r.items (slots_below parent false place) n) at
      ∙ ap (λ rs. items_of (slots_below parent false place) rs n) (items_are (write_items ps))
      ∙ ap as_list (law_items ps (slots_below parent false place) n kept fits)
  law_part (list ps) name (Sort.NonEmptyList place) parent d computed n c kept at fits =
      at_member d name (Some (array (write_items ps))) (λ r. r.items (slots_below parent false place) n) at
      ∙ ap (λ rs. items_of (slots_below parent false place) rs n) (items_are (write_items ps))
      ∙ ap as_list (law_items ps (slots_below parent false place) n kept fits)
  law_part (list ps) name (Sort.ListWithHoles place) parent d computed n c kept at fits =
      at_member d name (Some (array (write_items ps))) (λ r. r.items (slots_below parent true place) n) at
      ∙ ap (λ rs. items_of (slots_below parent true place) rs n) (items_are (write_items ps))
      ∙ ap as_list (law_items ps (slots_below parent true place) n kept fits)
  law_part (string s) name Sort.Name parent d computed n c kept at fits = string_back d name s at kept
  law_part (string s) name Sort.NullableString parent d computed n c kept at fits = string_back d name s at kept
  law_part (string s) name (Sort.Word of) parent d computed n c kept at fits = string_back d name s at kept
  law_part (string s) name Sort.Raw parent d computed n c kept at fits = ap alone at.1
  law_part (string s) name Sort.Cooked parent d computed n c kept at fits = ap alone at.1
  law_part (string s) name Sort.Type parent d computed n c kept at fits = ap alone at.1
  law_part no_string name Sort.NullableString parent d computed n c kept at fits = ap (λ o. alone (nullable_string (option_map chars (option_and_then as_str o)))) at
  law_part no_string name Sort.Cooked parent d computed n c kept at fits = ap alone at.1
  law_part (boolean b) name Sort.Boolean parent d computed n c kept at fits = ap (λ o. alone (boolean (is_true (option_and_then as_bool o)))) at
  law_part (boolean b) name Sort.False parent d computed n c kept at fits = ap (λ z. alone (boolean z)) (sym (not_true b c))
  law_part (literal v) name Sort.Literal parent d computed n c kept at fits = ap alone at.1
  law_part _ name _ parent d computed n c kept at fits = cc

  law_items : (ps : Parts) (slots : Slots) (n : ℕ) → AreKept ps → ItemsFit slots ps → each (one_item slots) (readers Numbers.Given (write_items ps)) n ≡ Ok (record { value = stripped_parts ps; foreign = [] })
  law_items end slots n kept fits = ap (λ rs. each (one_item slots) rs n) readers_none
  law_items (more p ps) slots n kept fits =
      let rest = readers Numbers.Given (write_items ps) in
      let m : ℕ = n + nodes_of_part (stripped_part p) in
      ap (λ rs. each (one_item slots) rs n) (readers_more (write_item p) (write_items ps))
      ∙ ap (λ b. bind ((reader_of Numbers.Given (write_item p)).item slots.holes (slot slots b) n) (λ q. bind (each (one_item slots) rest (n + nodes_of_part q.value)) (λ qs. Ok (before q qs)))) (last_is ps)
      ∙ ap (λ r. bind r (λ q. bind (each (one_item slots) rest (n + nodes_of_part q.value)) (λ qs. Ok (before q qs)))) (law_item p slots (is_end ps) n kept.0 fits.0)
      ∙ ap (λ r. bind r (λ qs. Ok (before (record { value = stripped_part p; foreign = [] }) qs))) (law_items ps slots m kept.1 fits.1)

  law_item : (p : Part) (slots : Slots) (last : Bool) (n : ℕ) → PartIsKept p → ItemFits slots last p → (reader_of Numbers.Given (write_item p)).item slots.holes (slot slots last) n ≡ Ok (record { value = stripped_part p; foreign = [] })
  law_item (child t) slots last n kept fits =
      ap (λ b. if slots.holes && b then alone absent else as_child (read Numbers.Given (write t) (slot slots last) n)) (write_there t)
      ∙ ap (λ b. if b then alone absent else as_child (read Numbers.Given (write t) (slot slots last) n)) (and_none slots.holes)
      ∙ ap as_child (law t (slot slots last) n fits.0 kept fits.1)
  law_item absent slots last n kept fits = ap (λ b. if b && true then alone absent else as_child (read Numbers.Given null (slot slots last) n)) fits
  law_item (list ps) slots last n kept fits = absurd fits
  law_item (string s) slots last n kept fits = absurd fits
  law_item no_string slots last n kept fits = absurd fits
  law_item (boolean b) slots last n kept fits = absurd fits
  law_item (literal v) slots last n kept fits = absurd fits

program_suits : (t : Tree) → conforms Place.Program t ≡ true → Suits root t
program_suits (Node Kind.Program id span semantic_id ps) c = refl
program_suits (Node _ id span semantic_id ps) c = cc

-- a program that is written and read again is the same but for its semantic ids
pub program_law : (t : Tree) → conforms Place.Program t ≡ true → IsKept t → read Numbers.Given (write t) root 0 ≡ Ok (record { value = stripped t; foreign = [] })
program_law t c kept = law t root 0 c kept (program_suits t c)
