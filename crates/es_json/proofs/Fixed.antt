-- The value of a lowered program fixes what it was written from.
use Rattle.std.proofs.Common.{◌≡◌, refl, sym, ap, ap₂, ◌∙◌, ℕ, List, [], ◌∷◌, map, true, Option, Some, None, Result, Ok, if◌then◌else◌}
use Rattle.std.specs.Prelude.{bytes_eq, nat_eq, codes, option_and_then}
use Rattle.std.specs.Str.{chars, encode_utf8_all}
use Rattle.serde_json.specs.Data.{Data, Items, no_items, item, no_members, array, object}
use Rattle.serde_json.specs.Find.{get, as_array, as_number, as_u64, as_str}
use Rattle.serde_json.specs.View.{items_of}
use Rattle.es_base.specs.Tree.{Tree, Node}
use Rattle.es_base.specs.Conforms.{conforms}
use Rattle.es_base.specs.Shape.{shape_number}
use Rattle.es_base.specs.Table.{members_of}
use Rattle.es_base.specs.declared.diagnostic.Diagnostic.{Diagnostic}
use Rattle.es_base.specs.declared.ids.NodeId.{NodeId}
use Rattle.es_base.specs.declared.ids.Span.{Span}
use Rattle.es_base.specs.declared.ledger.GeneratedKind.{GeneratedKind}
use Rattle.es_base.specs.declared.ledger.LedgerEntry.{LedgerEntry}
use Rattle.es_base.specs.declared.shape.Shape.{Shape}
use Rattle.es_base.specs.declared.table.Place.{Place}
use Rattle.es_writing.specs.Lowered.{NamesAreStrings, written_name, signed, entry_value, warning_value, write_lowered}
use Rattle.es_reading.specs.Fault.{Fault, Read}
use Rattle.es_reading.specs.Reading.{read, root}
use Rattle.es_reading.specs.declared.numbers.Numbers.{Numbers}
use Rattle.es_writing.specs.Writing.{put_all, number_of, write_fields}
use Rattle.es_base.specs.Carried.{stripped}
use Rattle.es_writing.specs.Kept.{IsString, IsKept}
use Rattle.es_json.proofs.Found.{found, get_all, node_entries}
use Rattle.es_json.proofs.Lowered.{more_members, lowered_law}
use Rattle.es_json.proofs.JsonText.{tree_read}

-- ---- the tree

read_alike : (s t : Tree) (r : Result (Read Tree) Fault) → r ≡ Ok (record { value = s; foreign = [] }) → r ≡ Ok (record { value = t; foreign = [] }) → s ≡ t
read_alike s t r a b = ap (tree_read s) (sym a ∙ b)

pub lowered_fixes_tree : (s t : Tree) (names names' : List LedgerEntry) (warnings warnings' : List Diagnostic) (shapes shapes' : List Shape)
    → conforms Place.Program s ≡ true → conforms Place.Program t ≡ true → IsKept s → IsKept t
    → write_lowered s names warnings shapes ≡ write_lowered t names' warnings' shapes' → stripped s ≡ stripped t
lowered_fixes_tree s t names names' warnings warnings' shapes shapes' c c' kept kept' same =
    read_alike (stripped s) (stripped t) (read Numbers.Given (write_lowered s names warnings shapes) root 0) (lowered_law s names warnings shapes c kept) (ap (λ d. read Numbers.Given d root 0) same ∙ lowered_law t names' warnings' shapes' c' kept')

-- ---- the lists

-- what stands in the array at a member
abbrev items_in : Items → List Data
items_in no_items = []
items_in (item d ds) = d ∷ items_in ds

abbrev items_or : Option Items → List Data
items_or None = []
items_or (Some ds) = items_in ds

abbrev list_at : List ℕ → Data → List Data
list_at key d = items_or (option_and_then as_array (get key d))

items_back : (ds : List Data) → items_in (items_of ds) ≡ ds
items_back [] = refl
items_back (d ∷ ds) = ap (λ es. d ∷ es) (items_back ds)

map_back : {X : Type 0} (write : X → Data) (back : Data → X) → ((x : X) → back (write x) ≡ x) → (xs : List X) → map back (map write xs) ≡ xs
map_back write back is [] = refl
map_back write back is (x ∷ xs) = ap₂ (λ y ys. y ∷ ys) (is x) (map_back write back is xs)

module _ (names : List LedgerEntry) (warnings : List Diagnostic) (shapes : List Shape) where
  look_more : (key : List ℕ) (t : Tree) (ds : List Data) → ((o : Option Data) → found key (more_members names warnings shapes) o ≡ Some (array (items_of ds))) → list_at key (write_lowered t names warnings shapes) ≡ ds
  look_more key (Node kind id span semantic_id ps) ds is =
      let base = put_all no_members (node_entries kind id span ps (write_fields (members_of kind) ps)) in
      ap (λ o. items_or (option_and_then as_array o)) (get_all key (more_members names warnings shapes) base ∙ is (get key (object base))) ∙ items_back ds

  names_found : (t : Tree) → list_at (codes "generated") (write_lowered t names warnings shapes) ≡ map entry_value names
  names_found t = look_more (codes "generated") t (map entry_value names) (λ o. refl)

  warnings_found : (t : Tree) → list_at (codes "warnings") (write_lowered t names warnings shapes) ≡ map warning_value warnings
  warnings_found t = look_more (codes "warnings") t (map warning_value warnings) (λ o. refl)

  shapes_found : (t : Tree) → list_at (codes "outside") (write_lowered t names warnings shapes) ≡ map (λ s. number_of (shape_number s)) shapes
  shapes_found t = look_more (codes "outside") t (map (λ s. number_of (shape_number s)) shapes) (λ o. refl)

abbrev number_or : Option ℕ → ℕ
number_or None = 0
number_or (Some n) = n

abbrev whole_of : Data → Option ℕ
whole_of d = option_and_then as_u64 (as_number d)

abbrev whole_at : List ℕ → Data → Option ℕ
whole_at key d = option_and_then whole_of (get key d)

-- ---- the shapes

abbrev shape_of : ℕ → Shape
shape_of n =
    if nat_eq n 1 then Shape.S1 else (if nat_eq n 2 then Shape.S2 else (if nat_eq n 3 then Shape.S3 else (if nat_eq n 4 then Shape.S4 else (if nat_eq n 5 then Shape.S5 else (if nat_eq n 6 then Shape.S6 else (if nat_eq n 7 then Shape.S7 else Shape.S8))))))

abbrev shape_in : Data → Shape
shape_in d = shape_of (number_or (whole_of d))

shape_back : (s : Shape) → shape_in (number_of (shape_number s)) ≡ s
shape_back Shape.S1 = refl
shape_back _ = refl

pub lowered_fixes_shapes : (s t : Tree) (names names' : List LedgerEntry) (warnings warnings' : List Diagnostic) (shapes shapes' : List Shape) → write_lowered s names warnings shapes ≡ write_lowered t names' warnings' shapes' → shapes ≡ shapes'
lowered_fixes_shapes s t names names' warnings warnings' shapes shapes' same =
    sym (map_back (λ s. number_of (shape_number s)) shape_in shape_back shapes)
    ∙ ap (map shape_in) (sym (shapes_found names warnings shapes s) ∙ ap (list_at (codes "outside")) same ∙ shapes_found names' warnings' shapes' t)
    ∙ map_back (λ s. number_of (shape_number s)) shape_in shape_back shapes'

-- ---- the warnings

abbrev span_by : Option ℕ → Option ℕ → Option Span
span_by (Some a) (Some b) = Some (record { start = a; end = b })
span_by (Some a) None = None
span_by None b = None

abbrev warning_in : Data → Diagnostic
warning_in d = record { node = record { 0 = number_or (whole_at (codes "node") d) }; span = span_by (whole_at (codes "start") d) (whole_at (codes "end") d) }

warning_back : (d : Diagnostic) → warning_in (warning_value d) ≡ d
warning_back d = by_span d.node d.span where
  by_span : (node : NodeId) (span : Option Span) → warning_in (warning_value (record { node = node; span = span })) ≡ record { node = node; span = span }
  by_span node None = refl
  by_span node (Some s) = refl

pub lowered_fixes_warnings : (s t : Tree) (names names' : List LedgerEntry) (warnings warnings' : List Diagnostic) (shapes shapes' : List Shape) → write_lowered s names warnings shapes ≡ write_lowered t names' warnings' shapes' → warnings ≡ warnings'
lowered_fixes_warnings s t names names' warnings warnings' shapes shapes' same =
    sym (map_back warning_value warning_in warning_back warnings)
    ∙ ap (map warning_in) (sym (warnings_found names warnings shapes s) ∙ ap (list_at (codes "warnings")) same ∙ warnings_found names' warnings' shapes' t)
    ∙ map_back warning_value warning_in warning_back warnings'

-- ---- the names

abbrev string_or : Option (List ℕ) → List ℕ
string_or None = []
string_or (Some s) = s

abbrev string_in : List ℕ → Data → List ℕ
string_in key d = string_or (option_and_then as_str (get key d))

abbrev node_in : List ℕ → Data → NodeId
node_in key d = record { 0 = number_or (whole_at key d) }

abbrev rest_of : List ℕ → List ℕ
rest_of [] = []
rest_of (c ∷ cs) = cs

abbrev kind_by : List ℕ → Data → GeneratedKind
kind_by word d =
    if bytes_eq word (codes "temp") then GeneratedKind.Temp else (
    if bytes_eq word (codes "param") then GeneratedKind.Param else (
    if bytes_eq word (codes "class") then GeneratedKind.ClassTemp (node_in (codes "class") d) else (
    if bytes_eq word (codes "weakmap") then GeneratedKind.WeakMap (node_in (codes "member") d) else (
    if bytes_eq word (codes "static") then GeneratedKind.StaticField (node_in (codes "member") d) else (
    if bytes_eq word (codes "brand") then GeneratedKind.Brand (node_in (codes "class") d) else (
    if bytes_eq word (codes "method") then GeneratedKind.Method (node_in (codes "member") d) else (
    if bytes_eq word (codes "loose") then GeneratedKind.LooseKey (node_in (codes "member") d) else (
    if bytes_eq word (codes "super") then GeneratedKind.SuperFn (node_in (codes "class") d) else (
    if bytes_eq word (codes "args") then GeneratedKind.Args else (
    if bytes_eq word (codes "closure") then GeneratedKind.Closure else GeneratedKind.Private (node_in (codes "class") d)))))))))))

-- a private name was written with `#`
abbrev entry_by : List ℕ → GeneratedKind → LedgerEntry
entry_by name (GeneratedKind.Private n) = record { name = rest_of name; kind = GeneratedKind.Private n }
entry_by name kind = record { name = name; kind = kind }

abbrev entry_in : Data → LedgerEntry
entry_in d = entry_by (chars (string_in (codes "name") d)) (kind_by (string_in (codes "kind") d) d)

signed_back : (name : List ℕ) (kind : GeneratedKind) → entry_by (signed kind name) kind ≡ record { name = name; kind = kind }
signed_back name GeneratedKind.Temp = refl
signed_back name _ = refl

entry_read : (name : List ℕ) (kind : GeneratedKind) → entry_in (entry_value (record { name = name; kind = kind })) ≡ entry_by (chars (encode_utf8_all (signed kind name))) kind
entry_read name GeneratedKind.Temp = refl
entry_read name _ = refl

entry_back : (e : LedgerEntry) → IsString (written_name e) → entry_in (entry_value e) ≡ e
entry_back e kept = entry_read e.name e.kind ∙ ap (λ s. entry_by s e.kind) kept ∙ signed_back e.name e.kind

names_back : (es : List LedgerEntry) → NamesAreStrings es → map entry_in (map entry_value es) ≡ es
names_back [] kept = refl
names_back (e ∷ es) kept = ap₂ (λ y ys. y ∷ ys) (entry_back e kept.0) (names_back es kept.1)

pub lowered_fixes_names : (s t : Tree) (names names' : List LedgerEntry) (warnings warnings' : List Diagnostic) (shapes shapes' : List Shape) → NamesAreStrings names → NamesAreStrings names'
    → write_lowered s names warnings shapes ≡ write_lowered t names' warnings' shapes' → names ≡ names'
lowered_fixes_names s t names names' warnings warnings' shapes shapes' kept kept' same =
    sym (names_back names kept)
    ∙ ap (map entry_in) (sym (names_found names warnings shapes s) ∙ ap (list_at (codes "generated")) same ∙ names_found names' warnings' shapes' t)
    ∙ names_back names' kept'
